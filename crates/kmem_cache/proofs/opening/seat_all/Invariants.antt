use Rattle.std.proofs.Common.{◌≡◌, ◌+◌, ◌≤◌, ◌++◌, List, map, reverse, All, vec_len, vec_capacity}
use Rattle.hist_lock.specs.Passes.{PassState}
use Rattle.depot.specs.Depot.{fresh_depot_seat}
use Rattle.kmem_model.specs.declared.cache_entry.CacheEntry.{CacheEntry}
use Rattle.kmem_cache.specs.declared.locked.CacheHome.{CacheHome}
use Rattle.kmem_cache.specs.Seats.{fresh_cache_seat}
use Rattle.kmem_cache.specs.Opening.{IsFreshPass}
use Rattle.kmem_cache.proofs.opening.seat_all.Given as goal

-- the passes are those that are left, and then those that have a seat
abbrev pub invariant-loop-pass : goal.invariant-loop-pass
invariant-loop-pass g l = record {
  fresh : All (IsFreshPass l.store.home) l.passes.items;
  depots : All (λ d. d ≡ fresh_depot_seat l.store) l.depots.items;
  count : vec_len l.depots ≡ vec_len l.passes;
  seated : (done : List (PassState CacheEntry CacheHome)) × (l.fn.passes.items ≡ l.passes.items ++ done)
      × (l.seats.items ≡ map (fresh_cache_seat l.store) (reverse done));
  room : vec_len l.passes + vec_len l.seats ≤ vec_capacity l.seats;
}

abbrev pub decreases-loop-pass : goal.decreases-loop-pass
decreases-loop-pass g l = vec_len l.passes
