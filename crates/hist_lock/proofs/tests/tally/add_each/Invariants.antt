use Rattle.std.proofs.Common.{◌≡◌, ◌+◌}
use Rattle.hist_lock.proofs.tests.tally.add_each.Given as goal

-- each turn uses up one of what the pass has left
abbrev pub invariant-loop-i : goal.invariant-loop-i
invariant-loop-i g l = record {
  of : l.pass.site ≡ l.lock;
  so_far : l.i + l.pass.left ≡ l.fn.pass.left;
}

abbrev pub decreases-loop-i : goal.decreases-loop-i
decreases-loop-i g l = l.pass.left
