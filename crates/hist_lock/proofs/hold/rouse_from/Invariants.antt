use Rattle.std.proofs.Common.{◌≡◌}
use Rattle.hist_lock.proofs.hold.rouse_from.Given as goal

-- waking changes nothing of the seat
abbrev pub invariant-loop-ahead : goal.invariant-loop-ahead
invariant-loop-ahead g l = (l.seat.table_id ≡ l.fn.seat.table_id) × (l.seat.id ≡ l.fn.seat.id) × (l.seat.me ≡ l.fn.seat.me)
