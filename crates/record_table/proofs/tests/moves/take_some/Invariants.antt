use Rattle.std.proofs.Common.{◌≡◌, All}
use Rattle.kmem_model.specs.Heap.{blank}
use Rattle.magazine.specs.Ready.{IsReady}
use Rattle.kmem_cache.specs.Seats.{buffers_at, IsCacheSeat}
use Rattle.record_table.proofs.tests.moves.take_some.Given as goal

abbrev pub invariant-loop-round : goal.invariant-loop-round
invariant-loop-round g l = record {
  of : IsCacheSeat l.cache l.seat;
  ready : All (IsReady (λ o. o ≡ blank) (buffers_at l.cache)) l.held.items;
}
