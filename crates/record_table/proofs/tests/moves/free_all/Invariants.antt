use Rattle.std.proofs.Common.{◌≡◌, All, vec_len}
use Rattle.kmem_model.specs.Heap.{blank}
use Rattle.magazine.specs.Ready.{IsReady}
use Rattle.kmem_cache.specs.Seats.{buffers_at, IsCacheSeat}
use Rattle.record_table.proofs.tests.moves.free_all.Given as goal

abbrev pub invariant-loop-buf : goal.invariant-loop-buf
invariant-loop-buf g l = record {
  of : IsCacheSeat l.cache l.seat;
  ready : All (IsReady (λ o. o ≡ blank) (buffers_at l.cache)) l.held.items;
}

abbrev pub decreases-loop-buf : goal.decreases-loop-buf
decreases-loop-buf g l = vec_len l.held
