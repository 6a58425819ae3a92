use Rattle.std.proofs.Common.{◌++◌, ℕ, List, sym, ◌∙◌, subst}
use Rattle.std.specs.Io.KnownBytes.{Appends}
use Rattle.kmem_io.specs.Streams.{AppendsFront, Appends-then}
use Rattle.kmem_model.specs.OneRun.{replies, reply_lines, lines_run, run_ended}
use Rattle.run_one.proofs.Reports.{after_some, front_of_more, front_behind}
use Rattle.run_one.proofs.opened.answer_script.Goals as goal

pub returns-in_err-answer_lines-clause-front : goal.returns-in_err-answer_lines-clause-front
returns-in_err-answer_lines-clause-front g c = λ start at. front_of_more _ _ _ _ (c.in_err-answer_lines.ensures.front start at)

pub returns-in_err-report-clause-front : goal.returns-in_err-report-clause-front
returns-in_err-report-clause-front g c = λ start at.
    let run = lines_run c.args.every 1 start c.args.script.now.lines.items in
    subst (λ (ys : List ℕ). AppendsFront (g.W.Sink.written c.args.out.now) (g.W.Sink.written c.report.new.out) (reply_lines c.args.script.now.names.items (replies c.args.every 1 start c.args.script.now.lines.items) ++ ys))
    (sym (after_some c.args.every run (sym c.is_some.ensures ∙ c.if-is_some.true)))
    (front_behind _ _ _ _ _ (c.in_ok-answer_lines.ensures.whole start at) (c.in_err-report.ensures.front (run_ended run) (c.finish.ensures.ended run (c.in_ok-answer_lines.ensures.runs start at))))

pub returns-in_ok-report-clause-whole : goal.returns-in_ok-report-clause-whole
returns-in_ok-report-clause-whole g c = λ start at.
    let run = lines_run c.args.every 1 start c.args.script.now.lines.items in
    subst (λ (ys : List ℕ). Appends (g.W.Sink.written c.args.out.now) (g.W.Sink.written c.report.new.out) (reply_lines c.args.script.now.names.items (replies c.args.every 1 start c.args.script.now.lines.items) ++ ys))
    (sym (after_some c.args.every run (sym c.is_some.ensures ∙ c.if-is_some.true)))
    (Appends-then _ _ _ _ _ (c.in_ok-answer_lines.ensures.whole start at) (c.in_ok-report.ensures.whole (run_ended run) (c.finish.ensures.ended run (c.in_ok-answer_lines.ensures.runs start at))))

pub returns-in_ok-report-clause-front : goal.returns-in_ok-report-clause-front
returns-in_ok-report-clause-front g c = λ start at.
    let run = lines_run c.args.every 1 start c.args.script.now.lines.items in
    subst (λ (ys : List ℕ). AppendsFront (g.W.Sink.written c.args.out.now) (g.W.Sink.written c.report.new.out) (reply_lines c.args.script.now.names.items (replies c.args.every 1 start c.args.script.now.lines.items) ++ ys))
    (sym (after_some c.args.every run (sym c.is_some.ensures ∙ c.if-is_some.true)))
    (front_behind _ _ _ _ _ (c.in_ok-answer_lines.ensures.whole start at) (c.in_ok-report.ensures.front (run_ended run) (c.finish.ensures.ended run (c.in_ok-answer_lines.ensures.runs start at))))
