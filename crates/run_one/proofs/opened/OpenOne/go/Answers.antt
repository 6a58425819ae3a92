use Rattle.std.proofs.Common.{◌<◌, ◌*◌, ◌++◌, false, [], All, length, sym, ap, subst}
use Rattle.std.specs.Result.{OnOk}
use Rattle.std.specs.Io.KnownBytes.{Appends}
use Rattle.std.proofs.lemmas.List.{length-replicate}
use Rattle.kmem_io.specs.Streams.{AppendsFront}
use Rattle.kmem_text.specs.Grammar.{Plain}
use Rattle.kmem_text.specs.Scripts.{plain}
use Rattle.kmem_text.specs.declared.command.Line.{Line}
use Rattle.kmem_model.specs.Records.{no_records}
use Rattle.kmem_model.specs.History.{IsFullExactly}
use Rattle.kmem_model.specs.One.{one_workers}
use Rattle.kmem_model.specs.OneRun.{OneRun, run_start, history_of, lines_run, reply_lines, report_after, one_output}
use Rattle.run_one.specs.Answers.{OneView, IsTextOfHistory}
use Rattle.run_one.proofs.Serves.{on_ok}
use Rattle.run_one.proofs.opened.OpenOne.go.Goals as goal

pub returns-clause-text : goal.returns-clause-text
returns-clause-text g c =
    let start : OneRun = run_start c.self.inside.slabs c.self.inside.chunks (length c.self.inside.script.names.items) in
    subst (λ (v : OneView). OnOk c.answer_script.result (Appends (g.W.Sink.written c.args.out.now) (g.W.Sink.written c.answer_script.new.out) (one_output v.slabs v.chunks v.every v.script))) c.self.view_is
    (on_ok c.answer_script.result _ _ (λ whole. whole start c.self.invariant.bench_is) c.answer_script.ensures.whole)

pub returns-clause-front : goal.returns-clause-front
returns-clause-front g c =
    let start : OneRun = run_start c.self.inside.slabs c.self.inside.chunks (length c.self.inside.script.names.items) in
    subst (λ (v : OneView). AppendsFront (g.W.Sink.written c.args.out.now) (g.W.Sink.written c.answer_script.new.out) (one_output v.slabs v.chunks v.every v.script)) c.self.view_is
    (c.answer_script.ensures.front start c.self.invariant.bench_is)

-- the text is that of the history of `one`
pub returns-clause-history : goal.returns-clause-history
returns-clause-history g c =
    let script : Plain = plain c.self.inside.script in
    let names = length script.names in
    let slabs = c.self.inside.slabs in
    let chunks = c.self.inside.chunks in
    let every = c.self.inside.every in
    let start : OneRun = run_start slabs chunks names in
    let positive : All (λ (line : Line). 0 < line.worker) script.lines = λ i d below. (c.self.invariant.of.workers i d below).0 in
    subst (λ (v : OneView). OnOk c.answer_script.result (IsTextOfHistory v.slabs v.chunks v.script (one_output v.slabs v.chunks v.every v.script))) c.self.view_is
    (on_ok c.answer_script.result _ _ (λ full.
    record {
      history = history_of every 1 start [] script.lines;
      behind = report_after every (lines_run every 1 start script.lines);
      whole = ap (λ rs. reply_lines script.names rs ++ report_after every (lines_run every 1 start script.lines)) (sym (c.law_one.ensures.replies every start script.lines));
      legal = c.law_one.ensures.legal slabs chunks names every script.lines positive;
      shared = c.law_one.ensures.shared slabs chunks names every script.lines positive;
      full = subst (λ n. IsFullExactly n (no_records names one_workers) (history_of every 1 start [] script.lines)) (length-replicate (slabs * chunks) false)
          (full start c.self.invariant.bench_is);
    }) c.answer_script.ensures.full)
