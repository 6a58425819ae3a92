use Rattle.std.proofs.Common.{◌≡◌, sym, subst}
use Rattle.std.specs.Result.{IfOk}
use Rattle.kmem_text.specs.Grammar.{Plain}
use Rattle.run_engine.specs.declared.plan.RunPlan.{RunPlan}
use Rattle.run_engine.specs.declared.ran.Ran.{Ran}
use Rattle.run_engine.specs.Ran.{IsRan, IsPrinted}
use Rattle.run_engine.proofs.Printing.{if_ok}
use Rattle.run_engine.proofs.open_run.OpenRun.go.Goals as goal

pub returns-clause-ran : goal.returns-clause-ran
returns-clause-ran g c =
    if_ok c.print.result (λ (r : Ran). r ≡ c.carry_out.result.ran) (λ (r : Ran). IsRan c.args.self.plan c.args.self.script r)
    (λ r is. subst (λ (x : Ran). IsRan c.args.self.plan c.args.self.script x) (sym is) c.carry_out.ensures.ran) c.print.ensures.ran

pub returns-clause-text : goal.returns-clause-text
returns-clause-text g c =
    subst (λ (plan : RunPlan). IfOk c.print.result (λ r. IsPrinted plan c.args.self.script r (g.W.Sink.written c.args.out.now) (g.W.Sink.written c.print.new.out))) c.carry_out.ensures.plan
    (subst (λ (script : Plain). IfOk c.print.result (λ r. IsPrinted c.carry_out.result.plan script r (g.W.Sink.written c.args.out.now) (g.W.Sink.written c.print.new.out))) c.carry_out.ensures.script
    c.print.ensures.text)
