use Rattle.std.proofs.Common.{◌≡◌, ◌++◌, List, All, vec_len}
use Rattle.depot.specs.Depot.{DepotSeatState}
use Rattle.depot.specs.Steps.{HasGathered}
use Rattle.depot.proofs.gather.gather_all.Given as goal

-- the seats are those that are left, and then those that were taken in
abbrev pub invariant-loop-next : goal.invariant-loop-next
invariant-loop-next g l = record {
  table : l.seat.table_id ≡ l.line.table_id;
  of : All (λ s. s.table ≡ l.line.table_id) l.seats.items;
  gathered : (done : List DepotSeatState) × (l.fn.seats.items ≡ l.seats.items ++ done) × HasGathered done l.seat.me;
}

abbrev pub decreases-loop-next : goal.decreases-loop-next
decreases-loop-next g l = vec_len l.seats
