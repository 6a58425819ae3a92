use Rattle.std.proofs.Common.{◌≡◌, ℕ, List, length}
use Rattle.kmem_cache.specs.Seats.{IsCacheSeat}
use Rattle.kmem_cache.specs.Reaping.{HasReapedAll}
use Rattle.kmem_cache.proofs.shared_cache.Cache.reap_now.Given as goal

-- one magazine was taken at each turn
abbrev pub invariant-loop-i : goal.invariant-loop-i
invariant-loop-i g l = record {
  of : IsCacheSeat l.self l.seat;
  reaped : (magazines : List (ℕ × List ℕ)) × (length magazines ≡ l.i) × HasReapedAll l.fn.seat l.seat magazines;
}
