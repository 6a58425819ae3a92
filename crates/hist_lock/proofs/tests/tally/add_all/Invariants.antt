use Rattle.std.proofs.Common.{◌≡◌, ◌+◌, ◌≤◌, vec_len, vec_capacity}
use Rattle.hist_lock.specs.History.{entries_of}
use Rattle.hist_lock.specs.Tally.{sums_before}
use Rattle.hist_lock.proofs.tests.tally.add_all.Given as goal

-- what was found so far is what stands before each of the pass's entries
abbrev pub invariant-loop-i : goal.invariant-loop-i
invariant-loop-i g l = record {
  of : l.pass.site ≡ l.lock;
  number_is : l.pass.number ≡ l.fn.done.pass.number;
  so_far : l.i + l.pass.left ≡ l.fn.done.pass.left;
  found : l.found.items ≡ sums_before 0 l.fn.done.pass.number l.pass.seen;
  exact : entries_of l.fn.done.pass.number l.pass.seen ≡ l.pass.mine;
  room : vec_len l.found + l.pass.left ≤ vec_capacity l.found;
}

abbrev pub decreases-loop-i : goal.decreases-loop-i
decreases-loop-i g l = l.pass.left
