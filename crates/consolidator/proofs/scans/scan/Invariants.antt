use Rattle.std.proofs.Common.{◌≡◌}
use Rattle.kmem_model.specs.SettleMeasure.{moves_left}
use Rattle.consolidator.specs.Owned.{holdings, stage_with}
use Rattle.consolidator.proofs.Within.{IsOnScan}
use Rattle.consolidator.proofs.scans.scan.Given as goal

abbrev pub invariant-moves : goal.invariant-moves
invariant-moves g l =
    let has = holdings g.H.Owner.stands g.H.Owner.tenants in record {
      homes : (l.cache.home ≡ l.fn.cache.home) × (g.H.Owner.home l.owner ≡ g.H.Owner.home l.fn.owner);
      meaning : (m : g.row.H-Meaning.Denot) → g.H.Owner.stands_for l.fn.owner m → g.H.Owner.stands_for l.owner m;
      on : IsOnScan l.fn.cache.state l.cache.state (has l.fn.owner) (has l.owner) l.fn.tally l.tally l.gained;
    }

abbrev pub decreases-moves : goal.decreases-moves
decreases-moves g l = moves_left (stage_with l.cache.state (g.H.Owner.stands l.owner))
