use Rattle.std.proofs.Common.{◌≡◌, ◌↔◌, true, ◌<◌, ◌+◌, ◌++◌, ℕ, List, [], ◌∷◌, length, take, drop, refl, sym, ap, ◌∙◌, subst, arith}
use Rattle.kmem_text.specs.Replies.{reply_text}
use Rattle.kmem_text.specs.declared.command.Line.{Line}
use Rattle.kmem_text.specs.declared.command.Reply.{Reply}
use Rattle.kmem_model.specs.OneRun.{OneRun, replies, reply_lines, lines_run, line_run, history_of}
use Rattle.kmem_model.specs.One.{buffers_of, one_step}
use Rattle.kmem_model.specs.History.{is_full_due, IsFullExactly}
use Rattle.kmem_text.specs.declared.command.Reply.TheVariants.{Full}
use Rattle.run_one.specs.Bench.{RunsAt, IsGoodLine}
use Rattle.run_one.proofs.Pages.{one_more, last_moved, last_whole, next_reply, next_run, next_full, nothing_moved}
use Rattle.std.proofs.lemmas.Result.{on_ok_weaker}
use Rattle.std.proofs.Math.ListN.{drop_of_length-le}
use Rattle.std.proofs.lemmas.List.{append-nil}
use Rattle.kmem_text.specs.Replies.{IsReplyWithinNames}
use Rattle.run_one.specs.Pages.{MovesOut}
use Rattle.run_one.proofs.opened.answer_lines.Given.{Over}
use Rattle.run_one.proofs.opened.answer_lines.Goals as goal

pub loop-index-init : goal.loop-index-init
loop-index-init g c =
    record {
      at = omega arith;
      names = c.requires.names;
      faults = refl;
      stands = c.requires.stands;
      written = λ start at. record { run = start; runs = at; written = nothing_moved _ _; rest = refl; buffers = refl; full = λ from. from };
    }

pub answer-reply-requires-clause-line : goal.answer-reply-requires-clause-line
answer-reply-requires-clause-line g c =
    let lines = c.args.script.now.lines.items in
    let line = c.index.result.now in
    let small : c.loop-index.index < length lines = omega (arith, c.loop-index-test.true, c.len-index-end.ensures) in
    subst (λ n. IsGoodLine n line) (sym c.loop-index.invariant.names)
    (subst (IsGoodLine (length c.args.script.now.names.items)) (sym c.index.ensures) (c.requires.within c.loop-index.index line small))

pub put_line-at-requires-clause-names : goal.put_line-at-requires-clause-names
put_line-at-requires-clause-names g c = subst (λ n. IsReplyWithinNames n c.answer-reply.result) c.loop-index.invariant.names c.answer-reply.ensures.within

pub loop-index-preserved : goal.loop-index-preserved
loop-index-preserved g c =
    let names = c.args.script.now.names.items in
    let lines = c.args.script.now.lines.items in
    let i = c.loop-index.index in
    let line = c.index.result.now in
    let small : i < length lines = omega (arith, c.loop-index-test.true, c.len-index-end.ensures) in
    record {
      at = c.put_line-at.ensures.end;
      names = c.answer-reply.ensures.names ∙ c.loop-index.invariant.names;
      faults = c.in_ok-at.ensures.counted ∙ c.loop-index.invariant.faults;
      stands = c.answer-reply.ensures.stands;
      written = λ start given.
          let on = c.loop-index.invariant.written start given in
          let does = c.answer-reply.ensures.answers on.run on.runs in
          record {
            run = line_run c.args.every (i + 1) on.run line;
            runs = does.runs;
            written = one_more _ _ _ _ _ _ _ _ _ _ on.written c.in_ok-at.ensures.moved
                (c.put_line-at.ensures.text ∙ ap (λ (reply : Reply). take c.in_ok-at.at c.loop-index.page ++ (reply_text names reply ++ 10 ∷ [])) does.replies)
                (next_reply c.args.every names on.run lines i line small c.index.ensures);
            rest = on.rest ∙ next_run c.args.every on.run lines i line small c.index.ensures;
            buffers = c.law_one.ensures.buffers c.args.every (i + 1) on.run line ∙ on.buffers;
            full = λ from. on.full
                (next_full c.args.every (buffers_of start.state.cache) on.run lines i line small c.index.ensures
                (c.law_one.ensures.full (buffers_of start.state.cache) (i + 1) c.args.every on.run (take i lines) line (drop (i + 1) lines) (subst (λ (l : Line). 0 < l.worker) (sym c.index.ensures) (c.requires.within i line small).worker.0)
                (subst (λ n. ((one_step on.run.state line.worker line.command).reply ≡ Full) ↔ (is_full_due n on.run.state.map line.command ≡ true)) on.buffers
                (c.law_one_step.ensures.full on.run.state c.loop-index.bench.heap.heap line.worker line.command on.runs.stands.stands)))
                from);
          };
    }

pub returns-in_err-at-clause-front : goal.returns-in_err-at-clause-front
returns-in_err-at-clause-front g c = λ start given. last_moved _ _ _ _ _ _ (c.loop-index.invariant.written start given).written c.in_err-at.ensures.front

pub returns-clause-front : goal.returns-clause-front
returns-clause-front g c = λ start given. last_moved _ _ _ _ _ _ (c.loop-index.invariant.written start given).written c.write_all.ensures.front

-- no line is left
none_left : (g : Over) (c : goal.After-write_all g) → drop c.loop-index.index c.args.script.now.lines.items ≡ []
none_left g c = drop_of_length-le c.args.script.now.lines.items (omega (arith, c.loop-index-test.false, c.len-index-end.ensures))

pub returns-clause-whole : goal.returns-clause-whole
returns-clause-whole g c = on_ok_weaker c.write_all.result (λ whole start given.
    let on = c.loop-index.invariant.written start given in
    last_whole _ _ _ _ _
    (subst (λ (xs : List ℕ). MovesOut (g.W.Sink.written c.args.out.now) (g.W.Sink.written c.loop-index.out) (reply_lines c.args.script.now.names.items (replies c.args.every 1 start c.args.script.now.lines.items)) xs)
    (ap (λ ls. take c.loop-index.at c.loop-index.page ++ reply_lines c.args.script.now.names.items (replies c.args.every (c.loop-index.index + 1) on.run ls)) (none_left g c) ∙ append-nil (take c.loop-index.at c.loop-index.page))
    on.written)
    whole) c.write_all.ensures.whole

pub returns-clause-runs : goal.returns-clause-runs
returns-clause-runs g c = on_ok_weaker c.write_all.result (λ whole start given.
    let on = c.loop-index.invariant.written start given in
    subst (λ (run : OneRun). RunsAt run c.loop-index.bench) (sym (on.rest ∙ ap (lines_run c.args.every (c.loop-index.index + 1) on.run) (none_left g c))) on.runs) c.write_all.ensures.whole

pub returns-clause-full : goal.returns-clause-full
returns-clause-full g c = on_ok_weaker c.write_all.result (λ whole start given.
    let on = c.loop-index.invariant.written start given in
    on.full
    (subst (λ ls. IsFullExactly (buffers_of start.state.cache) on.run.state.map (history_of c.args.every (c.loop-index.index + 1) on.run (take c.loop-index.index c.args.script.now.lines.items) ls)) (sym (none_left g c)) tt)) c.write_all.ensures.whole
