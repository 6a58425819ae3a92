use Rattle.std.proofs.Common.{◌≡◌, ◌≤◌, [], length, get_or, Some, None, refl, sym, ap, ap₂, ◌∙◌, subst}
use Rattle.kmem_model.specs.CacheState.{CacheState}
use Rattle.kmem_model.specs.Says.{stage_in}
use Rattle.kmem_model.specs.Settle.{Stage, Course}
use Rattle.kmem_model.specs.SettleMeasure.{settled}
use Rattle.kmem_model.specs.OneRun.{OneRun, stage_of, run_after, settled_run}
use Rattle.consolidator.specs.Tallies.{tally_sum}
use Rattle.run_one.specs.Bench.{StandsAt, RunsAt}
use Rattle.run_one.proofs.Benches.{in_use, held_on}
use Rattle.kmem_buf.specs.Homes.{Homes}
use Rattle.run_one.proofs.bench.Bench.settle.Goals as goal

-- the course that the settle takes, as the settle of `one`
abbrev course : (c : goal.After-add) → Course
course c = record { stage = stage_in c.settle_records-tally.new.cache.state c.settle_records-tally.new.heap.heap.objects; moves = c.settle_records-tally.ensures.settles.moves }

runs : (c : goal.After-add) (run : OneRun) → StandsAt run.state (record { cache = c.self.inside.cache; heap = c.self.inside.heap; holds = c.self.inside.holds.items; settled = c.self.inside.settled }) →
    (settled_run run ≡ run_after run (course c)) × StandsAt (run_after run (course c)).state (record { cache = c.settle_records-tally.new.cache; heap = c.settle_records-tally.new.heap; holds = c.self.inside.holds.items; settled = c.add.new.tally })
runs c run at =
    let f = c.self.inside in
    let does = c.settle_records-tally.ensures.settles in
    let stage : stage_in f.cache.state f.heap.heap.objects ≡ stage_of run.state = ap (λ (cache : CacheState). stage_in cache f.heap.heap.objects) at.cache ∙ c.law_one_settle.ensures.stage run.state f.heap.heap at.stands in
    let after =
    c.law_one_settle.ensures.settled run f.heap.heap c.settle_records-tally.new.heap.heap (course c) at.stands
    (subst (λ (s : Stage). settled s ≡ Some (course c)) stage does.settle)
    (c.law_stage.ensures.whole c.settle_records-tally.new.cache.state c.settle_records-tally.new.heap.heap c.law_whole.ensures.whole c.settle_records-tally.ensures.calm c.settle_records-tally.ensures.buffers)
    (does.heap_moves.stands run.state.map run.state.addresses at.stands.stands)
    c.settle_records-tally.ensures.buffers in (
      after.0,
      record {
        stands = after.1;
        cache = refl;
        cells = ap (λ h. length h.cells) c.settle_records-tally.ensures.home ∙ (at.cells ∙ (sym at.stands.size ∙ (sym does.heap_moves.frame.objects ∙ after.1.size)));
        held = λ place. at.held place ∙ (in_use run.state f.heap.heap place at.stands ∙ sym (in_use (run_after run (course c)).state c.settle_records-tally.new.heap.heap place after.1));
      },
    )

pub returns-clause-settled : goal.returns-clause-settled
returns-clause-settled c = λ run given.
    let f = c.self.inside in
    let at = subst (RunsAt run) (sym c.self.view_is) given in
    let does = runs c run at.stands in
    subst (λ (r : OneRun). RunsAt r (record { cache = c.settle_records-tally.new.cache; heap = c.settle_records-tally.new.heap; holds = f.holds.items; settled = c.add.new.tally })) (sym does.0)
    (record {
      stands = does.1;
      settled = c.add.ensures ∙ (ap₂ tally_sum at.settled c.settle_records-tally.ensures.settles.counts ∙ sym (c.law_tally.ensures.sum run.moves c.settle_records-tally.ensures.settles.moves));
    })

pub returns-clause-stands : goal.returns-clause-stands
returns-clause-stands c =
    let s = c.requires.stands.0 in
    let run : OneRun = record { state = s; moves = [] } in
    ((run_after run (course c)).state, (runs c run (subst (StandsAt s) (sym c.self.view_is) c.requires.stands.1)).1)

pub invariant_of-self : goal.invariant_of-self
invariant_of-self c =
    let f = c.self.inside in
    let frame = c.settle_records-tally.ensures.settles.heap_moves.frame in
    record {
      home = frame.home ∙ (c.self.invariant.home ∙ sym c.settle_records-tally.ensures.home);
      few = subst (λ (h : Homes). length h.cells ≤ 65536) (sym c.settle_records-tally.ensures.home) c.self.invariant.few;
      tags = frame.tags ∙ c.self.invariant.tags;
      places = c.self.invariant.places;
      held = λ place. held_on f.heap c.settle_records-tally.new.heap place (get_or f.holds.items place None) frame.holds (c.self.invariant.held place);
    }
