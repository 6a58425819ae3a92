use Rattle.std.proofs.Common.{◌≡◌, length, ap, ◌∙◌, arith, Some}
use Rattle.hist_lock.specs.History.{listed}
use Rattle.hist_lock.proofs.tests.tally.add_each.Goals as goal

pub loop-i-preserved : goal.loop-i-preserved
loop-i-preserved g c =
    let inv = c.loop-i.invariant in let turn = c.act.ensures in let entry = turn.1 in let t = turn.2 in
    let made : entry ≡ Some c.amount.result = t.answered.1 in
    let one : length (listed entry) ≡ 1 = ap (λ e. length (listed e)) made in
    let left = t.left in let so_far = inv.so_far in
    record { of = t.site ∙ inv.of; so_far = omega arith }
