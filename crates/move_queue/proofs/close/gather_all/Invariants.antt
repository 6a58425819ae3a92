use Rattle.std.proofs.Common.{◌≡◌, ◌++◌, List, All, vec_len}
use Rattle.crossbeam_queue.specs.Passes.{IsPassOf}
use Rattle.move_queue.specs.Queue.{QueueSeatState}
use Rattle.move_queue.specs.Seats.{known_by, IsSeatOf, HasGathered}
use Rattle.move_queue.proofs.close.gather_all.Given as goal

-- the seats are those that are left, and then those that were taken in
abbrev pub invariant-loop-next : goal.invariant-loop-next
invariant-loop-next g l = record {
  pass : IsPassOf l.ring l.pass;
  mark : l.mark.table_id ≡ l.line.table_id;
  of : All (IsSeatOf l.ring.table.shared.table_id l.line.table_id l.line.key) l.seats.items;
  gathered : (done : List (QueueSeatState g.row.K-Object.Denot)) × (l.fn.seats.items ≡ l.seats.items ++ done)
      × HasGathered l.line.key done (known_by l.pass) l.mark.me.0;
}

abbrev pub decreases-loop-next : goal.decreases-loop-next
decreases-loop-next g l = vec_len l.seats
