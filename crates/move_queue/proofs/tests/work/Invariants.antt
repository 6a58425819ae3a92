use Rattle.std.proofs.Common.{◌≡◌, IfSome}
use Rattle.kmem_model.specs.Heap.{blank}
use Rattle.object_cache.specs.Moves.{IsJobOf}
use Rattle.move_queue.specs.Queue.{IsQueueSeat}
use Rattle.move_queue.proofs.tests.work.Given as goal

abbrev pub invariant-loop : goal.invariant-loop
invariant-loop g l = IsQueueSeat l.queue l.seat × IfSome l.held (IsJobOf (λ o. o ≡ blank) l.queue.terms.home)
