use Rattle.std.proofs.Common.{◌≡◌, ◌≤◌, length, take, drop, sum, vec_capacity}
use Rattle.hist_lock.specs.Passes.{fresh_passes}
use Rattle.hist_lock.specs.Rule.{bounds_of}
use Rattle.hist_lock.specs.Seats.{IsDealer, site_of}
use Rattle.hist_lock.proofs.deal.deal_all.Given as goal

-- the passes for the quotas so far, and a dealer with the rest
abbrev pub invariant-loop-i : goal.invariant-loop-i
invariant-loop-i g l = record {
  table : l.seat.table_id ≡ l.fn.seat.table_id;
  deals : IsDealer (bounds_of g.O.Told.home l.terms) l.i (sum (drop l.i l.quotas)) l.seat.me;
  passes : l.passes.items ≡ fresh_passes (site_of l.line.table_id (bounds_of g.O.Told.home l.terms)) 0 (take l.i l.quotas);
  room : length l.quotas ≤ vec_capacity l.passes;
}

-- each pass gets its quota
abbrev pub ghosts-deal_one : goal.ghosts-deal_one
ghosts-deal_one g a = record { quota = a.quota }
