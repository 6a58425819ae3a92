use Rattle.std.proofs.Common.{◌≤◌, ℕ, List, length, sym, ◌∙◌, ap, subst}
use Rattle.std.specs.Io.KnownBytes.{Appends, Consumes}
use Rattle.kmem_text.specs.Grammar.{Plain, script_of, first_bad_of}
use Rattle.kmem_text.specs.Scripts.{plain}
use Rattle.kmem_text.proofs.Counted.{first_bad_counted}
use Rattle.kmem_io.specs.Streams.{AppendsFront}
use Rattle.kmem_model.specs.OneRun.{one_output}
use Rattle.run_one.specs.Answers.{OneView, IsTextOfHistory}
use Rattle.run_one.proofs.Serves.{if_some, ok_and, not_due, all_read, run_answer}
use Rattle.run_one.proofs.one.serve_one.Goals as goal

pub returns-in-Ok-go-clause-text : goal.returns-in-Ok-go-clause-text
returns-in-Ok-go-clause-text g c = if_some (g.R.Source.left c.args.input.now) _ (λ bytes is.
    let script : Plain = plain c.in-Ok-read_script.script in
    let read = all_read (g.R.Source.left c.args.input.now) (g.R.Source.left c.read_all.new.input) c.deref.result.now bytes (subst (Consumes (g.R.Source.left c.args.input.now) (g.R.Source.left c.read_all.new.input)) (sym c.deref.ensures.value) c.in-Ok.ensures.bytes) c.in-Ok.ensures.end is in
    let out = subst (λ (v : OneView). Appends (g.W.Sink.written c.args.out.now) (g.W.Sink.written c.go.new.out) (one_output v.slabs v.chunks v.every v.script)) c.in-Ok-create.ensures c.in-Ok-go.ensures.text in
    let history = subst (λ (v : OneView). IsTextOfHistory v.slabs v.chunks v.script (one_output v.slabs v.chunks v.every v.script)) c.in-Ok-create.ensures c.in-Ok-go.ensures.history in
    ok_and _ _ _ (run_answer c.args.slabs c.args.chunks c.args.every bytes script (subst (λ (xs : List ℕ). length xs ≤ 16777216) (sym (read ∙ c.deref.ensures.value)) c.in-Ok.ensures.within) (ap (first_bad_of 16) read ∙ c.in-Ok-read_script.ensures.good) (ap (script_of 16) read ∙ c.in-Ok-read_script.ensures.script) c.in-Ok-read_script.ensures.whole.few) (
      out,
      subst (λ (s : Plain). IsTextOfHistory c.args.slabs c.args.chunks s (one_output c.args.slabs c.args.chunks c.args.every script))
          (sym (ap (script_of 16) read ∙ c.in-Ok-read_script.ensures.script)) history,
    ))

pub returns-clause-front : goal.returns-clause-front
returns-clause-front g c = λ failed. if_some (g.R.Source.left c.args.input.now) _ (λ bytes is.
    let read = all_read (g.R.Source.left c.args.input.now) (g.R.Source.left c.read_all.new.input) c.deref.result.now bytes (subst (Consumes (g.R.Source.left c.args.input.now) (g.R.Source.left c.read_all.new.input)) (sym c.deref.ensures.value) c.in-Ok.ensures.bytes) c.in-Ok.ensures.end is in
    ok_and _ _ _ (run_answer c.args.slabs c.args.chunks c.args.every bytes (plain c.in-Ok-read_script.script) (subst (λ (xs : List ℕ). length xs ≤ 16777216) (sym (read ∙ c.deref.ensures.value)) c.in-Ok.ensures.within) (ap (first_bad_of 16) read ∙ c.in-Ok-read_script.ensures.good) (ap (script_of 16) read ∙ c.in-Ok-read_script.ensures.script) c.in-Ok-read_script.ensures.whole.few)
    (subst (λ (v : OneView). AppendsFront (g.W.Sink.written c.args.out.now) (g.W.Sink.written c.go.new.out) (one_output v.slabs v.chunks v.every v.script)) c.in-Ok-create.ensures c.go.ensures.front))

pub returns-in-Err-BadLine-clause-counted : goal.returns-in-Err-BadLine-clause-counted
returns-in-Err-BadLine-clause-counted g c =
    let said = rw c.in-Err-BadLine.field-0-is at c.in-Err-BadLine.ensures.error in
    rw c.in-Err-BadLine.line-is (first_bad_counted 16 c.deref.result.now c.in-Err-BadLine.line c.in-Err-BadLine.fault said)

pub returns-in-Ok-go-clause-due : goal.returns-in-Ok-go-clause-due
returns-in-Ok-go-clause-due g c = if_some (g.R.Source.left c.args.input.now) _ (λ bytes is due fails.
    let read = all_read (g.R.Source.left c.args.input.now) (g.R.Source.left c.read_all.new.input) c.deref.result.now bytes (subst (Consumes (g.R.Source.left c.args.input.now) (g.R.Source.left c.read_all.new.input)) (sym c.deref.ensures.value) c.in-Ok.ensures.bytes) c.in-Ok.ensures.end is in
    not_due _ _ due _ (run_answer c.args.slabs c.args.chunks c.args.every bytes (plain c.in-Ok-read_script.script) (subst (λ (xs : List ℕ). length xs ≤ 16777216) (sym (read ∙ c.deref.ensures.value)) c.in-Ok.ensures.within) (ap (first_bad_of 16) read ∙ c.in-Ok-read_script.ensures.good) (ap (script_of 16) read ∙ c.in-Ok-read_script.ensures.script) c.in-Ok-read_script.ensures.whole.few) fails)

pub returns-clause-due : goal.returns-clause-due
returns-clause-due g c = if_some (g.R.Source.left c.args.input.now) _ (λ bytes is due fails.
    let read = all_read (g.R.Source.left c.args.input.now) (g.R.Source.left c.read_all.new.input) c.deref.result.now bytes (subst (Consumes (g.R.Source.left c.args.input.now) (g.R.Source.left c.read_all.new.input)) (sym c.deref.ensures.value) c.in-Ok.ensures.bytes) c.in-Ok.ensures.end is in
    not_due _ _ due _ (run_answer c.args.slabs c.args.chunks c.args.every bytes (plain c.in-Ok-read_script.script) (subst (λ (xs : List ℕ). length xs ≤ 16777216) (sym (read ∙ c.deref.ensures.value)) c.in-Ok.ensures.within) (ap (first_bad_of 16) read ∙ c.in-Ok-read_script.ensures.good) (ap (script_of 16) read ∙ c.in-Ok-read_script.ensures.script) c.in-Ok-read_script.ensures.whole.few) fails)
