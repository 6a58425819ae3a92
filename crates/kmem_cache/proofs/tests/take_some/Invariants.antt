use Rattle.std.proofs.Common.{◌≡◌, All}
use Rattle.magazine.specs.Ready.{IsReady}
use Rattle.kmem_cache.specs.Seats.{buffers_at, IsCacheSeat}
use Rattle.kmem_cache.proofs.tests.take_some.Given as goal

abbrev pub invariant-loop-round : goal.invariant-loop-round
invariant-loop-round g l = record {
  of : IsCacheSeat l.cache l.seat;
  ready : All (IsReady (λ n. n ≡ 0) (buffers_at l.cache)) l.held.items;
}
