use Rattle.std.proofs.Common.{◌≡◌, ◌++◌, List, All, vec_len}
use Rattle.hist_lock.specs.Passes.{PassState}
use Rattle.hist_lock.specs.Seats.{HasGathered}
use Rattle.hist_lock.proofs.gather.gather_all.Given as goal

-- the passes are those that are left, and then those that were taken in
abbrev pub invariant-loop-pass : goal.invariant-loop-pass
invariant-loop-pass g l = record {
  table : l.seat.table_id ≡ l.line.table_id;
  of : All (λ p. p.site.table ≡ l.line.table_id) l.passes.items;
  gathered : (done : List (PassState g.row.O-Entry.Denot g.row.O-Home.Denot)) × (l.fn.passes.items ≡ l.passes.items ++ done) × HasGathered done l.seat.me;
}

abbrev pub decreases-loop-pass : goal.decreases-loop-pass
decreases-loop-pass g l = vec_len l.passes
