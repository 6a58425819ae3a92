use Rattle.std.proofs.Common.{◌≡◌, ◌≤◌, length, sum, All, sym, ap, ◌∙◌, subst, arith}
use Rattle.run_engine.specs.Quotas.{command_counts}
use Rattle.run_engine.proofs.Counts.{counts_many, counts_few, counts_sum}
use Rattle.run_engine.proofs.opening.open_all.Goals as goal

pub open_shared-requires-clause-few : goal.open_shared-requires-clause-few
open_shared-requires-clause-few c =
    let lines = c.deref.result.now in
    let is : c.deref-2.result.now ≡ command_counts c.args.plan.now.workers lines = c.deref-2.ensures.value ∙ c.in_ok-counts.ensures in
    subst (All (λ n. n ≤ 100000)) (sym is) (counts_few c.args.plan.now.workers lines (omega (arith, ap length c.deref.ensures.value, c.requires.script.few)))

pub open_shared-requires-clause-all : goal.open_shared-requires-clause-all
open_shared-requires-clause-all c =
    let lines = c.deref.result.now in
    let is : c.deref-2.result.now ≡ command_counts c.args.plan.now.workers lines = c.deref-2.ensures.value ∙ c.in_ok-counts.ensures in
    omega (
      arith,
      ap sum is,
      counts_sum c.args.plan.now.workers lines (omega (arith, ap length c.deref.ensures.value, c.requires.script.few)) c.requires.plan.workers.1,
    )

pub open_shared-requires-clause-many : goal.open_shared-requires-clause-many
open_shared-requires-clause-many c =
    ap length (c.deref-2.ensures.value ∙ c.in_ok-counts.ensures) ∙ counts_many c.args.plan.now.workers c.deref.result.now

pub crew_of-requires-clause-many : goal.crew_of-requires-clause-many
crew_of-requires-clause-many c = ap length c.in_ok-counts.ensures ∙ counts_many c.args.plan.now.workers c.deref.result.now
