use Rattle.std.proofs.Common.{◌≡◌, ◌+◌, ◌++◌, List, All, vec_len}
use Rattle.std.specs.List.{sum_by}
use Rattle.record_table.specs.Shares.{ShareState, IsShareAt}
use Rattle.record_table.proofs.closing.take_back_all.Given as goal

-- the shares are those that are out, and then those that are back
abbrev pub invariant-loop-share : goal.invariant-loop-share
invariant-loop-share l = record {
  at : All (IsShareAt l.stubs.homes) l.shares.items;
  out : l.stubs.out ≡ vec_len l.shares;
  back : (done : List ShareState) × (l.fn.shares.items ≡ l.shares.items ++ done) × (l.stubs.brought + sum_by (λ s. s.brought) done ≡ l.fn.stubs.brought)
      × (l.stubs.fetched + sum_by (λ s. s.fetched) done ≡ l.fn.stubs.fetched);
}

abbrev pub decreases-loop-share : goal.decreases-loop-share
decreases-loop-share l = vec_len l.shares
