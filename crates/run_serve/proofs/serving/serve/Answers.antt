use Rattle.std.proofs.Common.{inl, inr, refl, ap, ◌∙◌, subst}
use Rattle.kmem_text.specs.Grammar.{script_of}
use Rattle.run_check.proofs.Verdict.{if_some, all_read}
use Rattle.run_check.specs.declared.fault.Fault.TheVariants.{Read}
use Rattle.run_engine.specs.Ran.{IsRan, IsPrinted, IsPrintedFront}
use Rattle.run_serve.specs.Served.{HasGoodScript}
use Rattle.run_serve.proofs.Due.{none_due, ok_err, at_plan}
use Rattle.run_serve.proofs.serving.serve.Goals as goal

pub returns-in-Ok-clause-ran : goal.returns-in-Ok-clause-ran
returns-in-Ok-clause-ran g c = if_some (g.R.Source.left c.args.input.now) _ (λ bytes is.
    let all = c.deref.ensures.value
    ∙ all_read (g.R.Source.left c.args.input.now) (g.R.Source.left c.read_input.new.input) c.in_ok-bytes.bytes.items bytes c.in_ok-bytes.ensures.bytes c.in_ok-bytes.ensures.end is in (
      subst (HasGoodScript c.args.plan.workers) all c.in_ok-run.ensures.good,
      at_plan (λ p s. IsRan p s c.in-Ok.ran) c.in_ok-run.run'.plan c.args.plan c.in_ok-run.run'.script (script_of c.args.plan.workers bytes) c.in_ok-run.ensures.plan
          (c.in_ok-run.ensures.script ∙ ap (script_of c.args.plan.workers) all) c.in-Ok.ensures.ran,
    ))

pub returns-in-Ok-clause-text : goal.returns-in-Ok-clause-text
returns-in-Ok-clause-text g c = if_some (g.R.Source.left c.args.input.now) _ (λ bytes is.
    let all = c.deref.ensures.value
    ∙ all_read (g.R.Source.left c.args.input.now) (g.R.Source.left c.read_input.new.input) c.in_ok-bytes.bytes.items bytes c.in_ok-bytes.ensures.bytes c.in_ok-bytes.ensures.end is in
    at_plan (λ p s. IsPrinted p s c.in-Ok.ran (g.W.Sink.written c.args.out.now) (g.W.Sink.written c.go.new.out)) c.in_ok-run.run'.plan c.args.plan c.in_ok-run.run'.script
    (script_of c.args.plan.workers bytes) c.in_ok-run.ensures.plan (c.in_ok-run.ensures.script ∙ ap (script_of c.args.plan.workers) all) c.in-Ok.ensures.text)

pub returns-in-Ok-clause-read : goal.returns-in-Ok-clause-read
returns-in-Ok-clause-read g c = (λ e. absurd (ok_err c.in-Ok.ran Read e), λ rose. absurd (ok_err c.in_ok-bytes.bytes Read (c.in_ok-bytes.ensures.read.1 rose)))

pub returns-in-Ok-clause-due : goal.returns-in-Ok-clause-due
returns-in-Ok-clause-due g c = if_some (g.R.Source.left c.args.input.now) _ (λ bytes is due found.
    let all = c.deref.ensures.value
    ∙ all_read (g.R.Source.left c.args.input.now) (g.R.Source.left c.read_input.new.input) c.in_ok-bytes.bytes.items bytes c.in_ok-bytes.ensures.bytes c.in_ok-bytes.ensures.end is in
    absurd (none_due c.args.plan.workers bytes due (subst (HasGoodScript c.args.plan.workers) all c.in_ok-run.ensures.good) found))

pub returns-in-Ok-clause-fine : goal.returns-in-Ok-clause-fine
returns-in-Ok-clause-fine g c = if_some (g.R.Source.left c.args.input.now) _ (λ bytes is good. inl refl)

pub returns-clause-due : goal.returns-clause-due
returns-clause-due g c = if_some (g.R.Source.left c.args.input.now) _ (λ bytes is due found.
    let all = c.deref.ensures.value
    ∙ all_read (g.R.Source.left c.args.input.now) (g.R.Source.left c.read_input.new.input) c.in_ok-bytes.bytes.items bytes c.in_ok-bytes.ensures.bytes c.in_ok-bytes.ensures.end is in
    absurd (none_due c.args.plan.workers bytes due (subst (HasGoodScript c.args.plan.workers) all c.in_ok-run.ensures.good) found))

pub returns-clause-fine : goal.returns-clause-fine
returns-clause-fine g c = if_some (g.R.Source.left c.args.input.now) _ (λ bytes is good. inr (inl refl))

pub returns-clause-front : goal.returns-clause-front
returns-clause-front g c = λ failed. if_some (g.R.Source.left c.args.input.now) _ (λ bytes is.
    let all = c.deref.ensures.value
    ∙ all_read (g.R.Source.left c.args.input.now) (g.R.Source.left c.read_input.new.input) c.in_ok-bytes.bytes.items bytes c.in_ok-bytes.ensures.bytes c.in_ok-bytes.ensures.end is in (
      subst (HasGoodScript c.args.plan.workers) all c.in_ok-run.ensures.good,
      at_plan (λ p s. IsPrintedFront p s (g.W.Sink.written c.args.out.now) (g.W.Sink.written c.go.new.out)) c.in_ok-run.run'.plan c.args.plan c.in_ok-run.run'.script
          (script_of c.args.plan.workers bytes) c.in_ok-run.ensures.plan (c.in_ok-run.ensures.script ∙ ap (script_of c.args.plan.workers) all) c.go.ensures.front,
    ))
