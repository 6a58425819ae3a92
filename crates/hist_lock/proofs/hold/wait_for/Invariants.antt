use Rattle.std.proofs.Common.{◌≡◌}
use Rattle.hist_lock.proofs.hold.wait_for.Given as goal

-- the seat waits as it did at first
abbrev pub invariant-loop : goal.invariant-loop
invariant-loop g l = (l.seat.table_id ≡ l.fn.seat.table_id) × (l.seat.id ≡ l.fn.seat.id) × (l.seat.me ≡ l.fn.seat.me)
