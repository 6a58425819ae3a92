use Rattle.std.proofs.Common.{subst}
use Rattle.run_engine.specs.Over.{OverView}
use Rattle.run_engine.specs.Ran.{IsPrinted, IsPrintedFront}
use Rattle.kmem_text.specs.Scripts.{plain}
use Rattle.run_engine.proofs.Printing.{printed_whole, printed_front}
use Rattle.run_engine.proofs.over_run.OverRun.print.Goals as goal

pub returns-in_err-print_all-clause-front : goal.returns-in_err-print_all-clause-front
returns-in_err-print_all-clause-front g c =
    subst (λ (v : OverView). IsPrintedFront v.plan v.script (g.W.Sink.written c.args.out.now) (g.W.Sink.written c.print_all.new.out)) c.self.view_is
    (printed_front c.self.inside.plan (plain c.self.inside.script) c.self.inside.ran c.self.inside.slabs c.self.inside.counts c.self.inside.page _ _ c.self.invariant c.print_all.ensures.front)

pub returns-clause-text : goal.returns-clause-text
returns-clause-text g c =
    subst (λ (v : OverView). IsPrinted v.plan v.script c.self.inside.ran (g.W.Sink.written c.args.out.now) (g.W.Sink.written c.print_all.new.out)) c.self.view_is
    (printed_whole c.self.inside.plan (plain c.self.inside.script) c.self.inside.ran c.self.inside.slabs c.self.inside.counts c.self.inside.page _ _ c.self.invariant c.in_ok-print_all.ensures.whole)

pub returns-clause-front : goal.returns-clause-front
returns-clause-front g c =
    subst (λ (v : OverView). IsPrintedFront v.plan v.script (g.W.Sink.written c.args.out.now) (g.W.Sink.written c.print_all.new.out)) c.self.view_is
    (printed_front c.self.inside.plan (plain c.self.inside.script) c.self.inside.ran c.self.inside.slabs c.self.inside.counts c.self.inside.page _ _ c.self.invariant c.print_all.ensures.front)
