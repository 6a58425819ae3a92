use Rattle.std.proofs.Common.{◌≡◌, ℕ, List, [], ◌++◌, length, All}
use Rattle.std.specs.List.{enumerate_from}
use Rattle.depot.specs.Depot.{IsOther}
use Rattle.depot.specs.Steps.{IsSameSeat}
use Rattle.depot.proofs.places.try_all.Given as goal

-- each place so far was tried, and found otherwise than is wanted
abbrev pub invariant-loop-place : goal.invariant-loop-place
invariant-loop-place g l = record {
  same : IsSameSeat l.fn.seat l.seat;
  offered : l.offered ≡ l.fn.magazine;
  found : (found : List ℕ) × (length found ≡ l.place) × All (IsOther l.wanted) found
      × (l.seat.me ≡ (record l.fn.seat.me.0 { tries = l.fn.seat.me.0.tries ++ enumerate_from 0 found }, []));
}
