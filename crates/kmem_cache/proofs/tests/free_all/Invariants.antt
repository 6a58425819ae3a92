use Rattle.std.proofs.Common.{◌≡◌, All, vec_len}
use Rattle.magazine.specs.Ready.{IsReady}
use Rattle.kmem_cache.specs.Seats.{buffers_at, IsCacheSeat}
use Rattle.kmem_cache.proofs.tests.free_all.Given as goal

abbrev pub invariant-loop-buf : goal.invariant-loop-buf
invariant-loop-buf g l = record {
  of : IsCacheSeat l.cache l.seat;
  ready : All (IsReady (λ n. n ≡ 0) (buffers_at l.cache)) l.held.items;
}

abbrev pub decreases-loop-buf : goal.decreases-loop-buf
decreases-loop-buf g l = vec_len l.held
