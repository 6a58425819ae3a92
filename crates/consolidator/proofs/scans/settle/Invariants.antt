use Rattle.std.proofs.Common.{◌≡◌}
use Rattle.kmem_model.specs.SettleMeasure.{scans_left}
use Rattle.consolidator.specs.Owned.{holdings, stage_with}
use Rattle.consolidator.proofs.Within.{IsOnSettle}
use Rattle.consolidator.proofs.scans.settle.Given as goal

abbrev pub invariant-scans : goal.invariant-scans
invariant-scans g l =
    let has = holdings g.H.Owner.stands g.H.Owner.tenants in record {
      homes : (l.cache.home ≡ l.fn.cache.home) × (g.H.Owner.home l.owner ≡ g.H.Owner.home l.fn.owner);
      meaning : (m : g.row.H-Meaning.Denot) → g.H.Owner.stands_for l.fn.owner m → g.H.Owner.stands_for l.owner m;
      on : IsOnSettle l.fn.cache.state l.cache.state (has l.fn.owner) (has l.owner) l.tally;
    }

abbrev pub decreases-scans : goal.decreases-scans
decreases-scans g l = scans_left (stage_with l.cache.state (g.H.Owner.stands l.owner))
