use Rattle.std.proofs.Common.{◌≡◌}
use Rattle.move_queue.proofs.move_queue.MoveQueue.pop_job.Given as goal

-- the seat is as it was
abbrev pub invariant-loop : goal.invariant-loop
invariant-loop g l = l.seat ≡ l.fn.seat
