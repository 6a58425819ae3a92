use Rattle.std.proofs.Common.{◌≡◌, ◌+◌, ◌≤◌, ◌++◌, List, map, reverse, vec_len, vec_capacity}
use Rattle.kmem_cache.specs.Seats.{CacheSeatState}
use Rattle.kmem_cache.specs.Closing.{AreParts}
use Rattle.kmem_cache.proofs.closing.part_all.Given as goal

-- the seats are those that are left, and then those that were taken apart
abbrev pub invariant-loop-seat : goal.invariant-loop-seat
invariant-loop-seat g l = record {
  parted : (done : List CacheSeatState) × (l.fn.seats.items ≡ l.seats.items ++ done) × (l.passes.items ≡ map (λ s. s.pass) (reverse done))
      × (l.stores.items ≡ map (λ s. s.depot) (reverse done)) × AreParts g.K.Kind.constructed (reverse done) l.cpus.items;
  room : (vec_len l.seats + vec_len l.passes ≤ vec_capacity l.passes) × (vec_len l.seats + vec_len l.stores ≤ vec_capacity l.stores)
      × (vec_len l.seats + vec_len l.cpus ≤ vec_capacity l.cpus);
}

abbrev pub decreases-loop-seat : goal.decreases-loop-seat
decreases-loop-seat g l = vec_len l.seats
