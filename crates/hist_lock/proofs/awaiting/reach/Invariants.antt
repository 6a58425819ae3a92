use Rattle.std.proofs.Common.{◌≡◌}
use Rattle.hist_lock.specs.Seats.{HasLearned}
use Rattle.hist_lock.proofs.awaiting.reach.Given as goal

-- the seat has learned of entries of others alone
abbrev pub invariant-loop : goal.invariant-loop
invariant-loop g l = (l.seat.table_id ≡ l.fn.seat.table_id) × (l.seat.id ≡ l.fn.seat.id) × HasLearned l.fn.seat.me.0 l.seat.me
