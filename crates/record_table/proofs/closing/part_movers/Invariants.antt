use Rattle.std.proofs.Common.{◌≡◌, ◌+◌, ◌≤◌, ◌++◌, List, [], map, reverse, All, vec_len, vec_capacity}
use Rattle.record_table.specs.Shares.{IsShareAt}
use Rattle.record_table.specs.Asks.{MoverState, AreFlagsDue}
use Rattle.record_table.proofs.closing.part_movers.Given as goal

-- the movers are those that are left, and then those that were taken apart
abbrev pub invariant-loop-mover : goal.invariant-loop-mover
invariant-loop-mover l = record {
  parted : (done : List MoverState) × (l.fn.movers.items ≡ l.movers.items ++ done) × (l.passes.items ≡ l.fn.parts.passes.items ++ map (λ m. m.pass) (reverse done))
      × (l.shares.items ≡ l.fn.parts.shares.items ++ map (λ m. m.share) (reverse done)) × All (λ m. AreFlagsDue m.flags m.pass.seen) done
      × All (λ m. m.pass.mine ≡ []) done;
  of : All (λ m. m.pass.site ≡ l.lock) l.movers.items;
  at : All (IsShareAt l.lock.home.shares) l.shares.items;
  room : (vec_len l.movers + vec_len l.passes ≤ vec_capacity l.passes) × (vec_len l.movers + vec_len l.shares ≤ vec_capacity l.shares);
}

abbrev pub decreases-loop-mover : goal.decreases-loop-mover
decreases-loop-mover l = vec_len l.movers
