use Rattle.std.proofs.Common.{◌≡◌, ◌&&◌, not, Bool, true, false, ◌++◌, [], ◌⊎◌, inl, inr, ap₂, sym, refl, ◌∙◌, Some}
use Rattle.std.proofs.lemmas.Bool.{and_left, and_right, not_from_true}
use Rattle.kmem_model.specs.Settle.{Course, with_scan}
use Rattle.kmem_model.specs.SettleWhole.{IsWholeStage, IsSettled, enough}
use Rattle.kmem_model.specs.SettleTurns.{IsScanOn}
use Rattle.kmem_model.specs.SettleMeasure.{settled}
use Rattle.consolidator.specs.Owned.{holdings, stage_with, SettlesWith}
use Rattle.consolidator.proofs.Owning.{stage_whole, stage_owned, settled_with}
use Rattle.consolidator.proofs.Turns.{counted_on, answered_on, left_on, done_is}
use Rattle.consolidator.proofs.scans.settle.Given.{Over}
use Rattle.consolidator.proofs.scans.settle.Goals as goal
use Rattle.consolidator.proofs.scans.settle.Goals.{Joined-else-not-gained, Then-rest, else-not-gained-via-then-not-gained+else-rest, else-not-gained-via-else-not-gained}

pub scans-init : goal.scans-init
scans-init g c =
    let state = c.args.cache.now.state in let stands = g.H.Owner.stands c.args.owner.now in
    let begun = c.law_scans.ensures.forgotten (stage_with state stands) c.forget.new.self.state (stage_whole state stands c.law_whole.ensures.whole c.requires.calm c.requires.owned) c.forget.ensures.entry in
    record {
      homes = (c.forget.ensures.home, refl);
      meaning = λ m stands. stands;
      on = record { moves = []; inside = begun.0; same = sym begun.1; counts = c.no_moves-tally.ensures; answered = tt; left = refl };
    }

-- One more scan

abbrev now : (g : Over) → goal.Joined-else-not-gained g → Course
now g c = record { stage = stage_with c.scans.cache.state (g.H.Owner.stands c.scans.owner); moves = c.scans.invariant.on.moves }

abbrev scan : (g : Over) → goal.Joined-else-not-gained g → Course
scan g c = record { stage = stage_with c.scan-gained.new.cache.state (g.H.Owner.stands c.scan-gained.new.owner); moves = c.scan-gained.ensures.scan.moves }

not_done : (a b : Bool) → ((a ≡ false) × (b ≡ false)) ⊎ (a ≡ true) → (not a && b) ≡ false
not_done a b (inl (x, y)) = and_right (not a) b y
not_done a b (inr x) = and_left (not a) b (not_from_true a x)

further : (g : Over) (c : goal.Joined-else-not-gained g) → IsScanOn (now g c) (with_scan (now g c).moves (scan g c))
further g c =
    c.law_scans.ensures.further (now g c) (scan g c) c.scans.invariant.on.inside c.scan-gained.ensures.scan.scan
    (done_is (scan g c).stage (scan g c).moves c.scan-gained.result c.is_rest_marked-rest.result c.scan-gained.ensures.scan.flag c.is_rest_marked-rest.ensures
    ∙ not_done c.scan-gained.result c.is_rest_marked-rest.result c.else-not-gained.either)

pub scans-smaller : goal.scans-smaller
scans-smaller g c = (further g c).fewer

pub scans-preserved : goal.scans-preserved
scans-preserved g c =
    let has = holdings g.H.Owner.stands g.H.Owner.tenants in let was = has c.args.owner.now in let held = has c.scans.owner in let left = has c.scan-gained.new.owner in
    let first = c.scans.invariant.on in let then = c.scan-gained.ensures.scan in
    record {
      homes = (c.scan-gained.ensures.homes.0 ∙ c.scans.invariant.homes.0, c.scan-gained.ensures.homes.1 ∙ c.scans.invariant.homes.1);
      meaning = λ m stands. c.scan-gained.ensures.meaning m (c.scans.invariant.meaning m stands);
      on =
          record {
            moves = first.moves ++ then.moves;
            inside = (further g c).inside;
            same = (further g c).same ∙ first.same;
            counts = counted_on c.scans.tally c.scan-gained.new.tally first.moves then.moves first.counts then.counts;
            answered = answered_on was held first.moves then.moves first.left first.answered then.answered;
            left = left_on was held left first.moves then.moves first.left then.left;
          };
    }

-- The last scan

abbrev before : (g : Over) → goal.Then-rest g → Course
before g c = record { stage = stage_with c.scans.cache.state (g.H.Owner.stands c.scans.owner); moves = c.scans.invariant.on.moves }

abbrev last : (g : Over) → goal.Then-rest g → Course
last g c = record { stage = stage_with c.scan-gained.new.cache.state (g.H.Owner.stands c.scan-gained.new.owner); moves = c.scan-gained.ensures.scan.moves }

-- the course of the whole settle
settled_is : (g : Over) (c : goal.Then-rest g) → settled (stage_with c.args.cache.now.state (g.H.Owner.stands c.args.owner.now)) ≡ Some (with_scan (before g c).moves (last g c))
settled_is g c =
    sym c.scans.invariant.on.same
    ∙ c.law_scans.ensures.last (before g c) (last g c) c.scan-gained.ensures.scan.scan
    (done_is (last g c).stage (last g c).moves c.scan-gained.result c.is_rest_marked-rest.result c.scan-gained.ensures.scan.flag c.is_rest_marked-rest.ensures
    ∙ ap₂ (λ a b. not a && b) c.if-not-gained.true c.if-rest.true)

whole_stage : (g : Over) (c : goal.Then-rest g) → IsWholeStage (stage_with c.args.cache.now.state (g.H.Owner.stands c.args.owner.now))
whole_stage g c = stage_whole c.args.cache.now.state (g.H.Owner.stands c.args.owner.now) c.law_whole.ensures.whole c.requires.calm c.requires.owned

settles : (g : Over) (c : goal.Then-rest g) → SettlesWith c.args.cache.now.state c.scan-gained.new.cache.state (holdings g.H.Owner.stands g.H.Owner.tenants c.args.owner.now) (holdings g.H.Owner.stands g.H.Owner.tenants c.scan-gained.new.owner) c.scan-gained.new.tally
settles g c =
    let has = holdings g.H.Owner.stands g.H.Owner.tenants in let was = has c.args.owner.now in let held = has c.scans.owner in let left = has c.scan-gained.new.owner in
    let first = c.scans.invariant.on in let then = c.scan-gained.ensures.scan in
    let made = c.law_settle_entries.ensures.entries (stage_with c.args.cache.now.state was.stands) (with_scan (before g c).moves (last g c)) (whole_stage g c) (settled_is g c) in
    record {
      moves = first.moves ++ then.moves;
      settle = settled_is g c;
      counts = counted_on c.scans.tally c.scan-gained.new.tally first.moves then.moves first.counts then.counts;
      entries = made.0;
      made = made.1;
      answered = answered_on was held first.moves then.moves first.left first.answered then.answered;
      left = left_on was held left first.moves then.moves first.left then.left;
    }

left : (g : Over) (c : goal.Then-rest g) → IsWholeStage (last g c).stage × IsSettled (last g c).stage
left g c =
    let stage = stage_with c.args.cache.now.state (g.H.Owner.stands c.args.owner.now) in
    c.law_settle.ensures.leaves (enough stage) stage (record { stage = (last g c).stage; moves = (settles g c).moves }) (whole_stage g c) (settles g c).settle

pub returns-then-rest-clause-settles : goal.returns-then-rest-clause-settles
returns-then-rest-clause-settles g c = settles g c

pub returns-then-rest-clause-settled : goal.returns-then-rest-clause-settled
returns-then-rest-clause-settled g c = settled_with c.scan-gained.new.cache.state (g.H.Owner.stands c.scan-gained.new.owner) (left g c).1

pub returns-then-rest-clause-calm : goal.returns-then-rest-clause-calm
returns-then-rest-clause-calm g c = (left g c).0.calm

pub returns-then-rest-clause-owned : goal.returns-then-rest-clause-owned
returns-then-rest-clause-owned g c = stage_owned c.scan-gained.new.cache.state (g.H.Owner.stands c.scan-gained.new.owner) (left g c).0
