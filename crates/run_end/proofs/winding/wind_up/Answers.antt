use Rattle.std.proofs.Common.{◌≡◌, ℕ, List, [], Some, refl, sym, ap, ◌∙◌, subst}
use Rattle.kmem_model.specs.CacheState.{CacheState}
use Rattle.kmem_model.specs.Says.{stage_in}
use Rattle.kmem_model.specs.Settle.{Stage, Course}
use Rattle.kmem_model.specs.SettleMeasure.{settled}
use Rattle.kmem_model.specs.One.{OneState, buffers_of}
use Rattle.kmem_model.specs.OneRun.{OneRun, stage_of, without_leftovers}
use Rattle.kmem_model.specs.Records.{RecordMap}
use Rattle.kmem_model.specs.Heap.{StandsFor}
use Rattle.run_end.specs.Ends.{StandTogether, HasFreed}
use Rattle.run_end.proofs.Left.{there_count}
use Rattle.run_end.proofs.Endings.{Ending, ending}
use Rattle.run_end.proofs.Settling.{together, stand_same, stand_calm, stand_buffers, freed_same}
use Rattle.run_end.proofs.winding.wind_up.Goals as goal

pub free_leftovers-requires-clause-stand : goal.free_leftovers-requires-clause-stand
free_leftovers-requires-clause-stand c =
    let cache = c.args.cache.now in
    let heap = c.args.heap.now in
    let m = c.requires.stand.0 in
    let addresses = c.requires.stand.1 in
    let buffers = c.law_just_these.ensures cache.state heap.heap.objects c.law_whole.ensures.whole c.requires.size c.meet_all.ensures.out c.requires.count in (
      record { map = m; cache = cache.state; addresses = addresses },
      stand_same _ cache c.meet_all.new.cache heap c.meet_all.new.heap c.meet_all.ensures.cache c.meet_all.ensures.heap
          (together m addresses cache heap c.law_whole.ensures.whole c.requires.calm c.requires.stand.2 buffers),
    )

-- what is left once the leftovers are gone, where the heap stood for this map at these addresses
freed_of : (c : goal.After-settle_records-arg-2-1) (m : RecordMap) (addresses : List ℕ) → StandsFor m addresses c.args.heap.now.heap →
    HasFreed (record { map = m; cache = c.args.cache.now.state; addresses = addresses }) c.args.cache.now c.args.heap.now c.free_leftovers.new.cache c.free_leftovers.new.heap
freed_of c m addresses stands =
    let cache = c.args.cache.now in
    let heap = c.args.heap.now in
    let buffers = c.law_just_these.ensures cache.state heap.heap.objects c.law_whole.ensures.whole c.requires.size c.meet_all.ensures.out c.requires.count in
    let s : OneState = record { map = m; cache = cache.state; addresses = addresses } in
    freed_same s cache c.meet_all.new.cache c.free_leftovers.new.cache heap c.meet_all.new.heap c.free_leftovers.new.heap c.meet_all.ensures.cache c.meet_all.ensures.heap
    (c.free_leftovers.ensures.freed s (stand_same s cache c.meet_all.new.cache heap c.meet_all.new.heap c.meet_all.ensures.cache c.meet_all.ensures.heap
    (together m addresses cache heap c.law_whole.ensures.whole c.requires.calm stands buffers)))

stood : (c : goal.After-settle_records-arg-2-1) → (s : OneState) × StandTogether s c.free_leftovers.new.cache c.free_leftovers.new.heap
stood c =
    let s : OneState = record { map = c.requires.stand.0; cache = c.args.cache.now.state; addresses = c.requires.stand.1 } in
    (without_leftovers (buffers_of s.cache) s, (freed_of c c.requires.stand.0 c.requires.stand.1 c.requires.stand.2).stands)

pub settle_records-tally-requires-clause-calm : goal.settle_records-tally-requires-clause-calm
settle_records-tally-requires-clause-calm c = let at = stood c in stand_calm at.0 c.free_leftovers.new.cache c.free_leftovers.new.heap at.1

pub settle_records-tally-requires-clause-buffers : goal.settle_records-tally-requires-clause-buffers
settle_records-tally-requires-clause-buffers c = let at = stood c in stand_buffers at.0 c.free_leftovers.new.cache c.free_leftovers.new.heap at.1

pub returns-clause-buffers : goal.returns-clause-buffers
returns-clause-buffers c = c.law_just_these.ensures c.args.cache.now.state c.args.heap.now.heap.objects c.law_whole.ensures.whole c.requires.size c.meet_all.ensures.out c.requires.count

pub returns-clause-wound_up : goal.returns-clause-wound_up
returns-clause-wound_up c =
    let cache = c.args.cache.now in
    let heap = c.args.heap.now in
    let between = c.free_leftovers.new.cache in
    let heap_between = c.free_leftovers.new.heap in
    let freed : (s : OneState) → StandTogether s cache heap → HasFreed s cache heap between heap_between = λ s at.
    freed_same s cache c.meet_all.new.cache between heap c.meet_all.new.heap heap_between c.meet_all.ensures.cache c.meet_all.ensures.heap
    (c.free_leftovers.ensures.freed s (stand_same s cache c.meet_all.new.cache heap c.meet_all.new.heap c.meet_all.ensures.cache c.meet_all.ensures.heap at)) in
    let does = c.settle_records-tally.ensures.settles in
    let course : Course = record { stage = stage_in c.settle_records-tally.new.cache.state c.settle_records-tally.new.heap.heap.objects; moves = does.moves } in
    record {
      between = between;
      heap_between = heap_between;
      freed = freed;
      settles = does;
      stands = λ s given.
          let at = (freed s given).stands in
          let run : OneRun = record { state = without_leftovers (buffers_of s.cache) s; moves = [] } in
          let stage : stage_in between.state heap_between.heap.objects ≡ stage_of run.state = ap (λ (t : CacheState). stage_in t heap_between.heap.objects) at.state ∙ c.law_one_settle.ensures.stage run.state heap_between.heap at.stands in
          let after =
          c.law_one_settle.ensures.settled run heap_between.heap c.settle_records-tally.new.heap.heap course at.stands
          (subst (λ (t : Stage). settled t ≡ Some course) stage does.settle)
          (c.law_stage.ensures.whole c.settle_records-tally.new.cache.state c.settle_records-tally.new.heap.heap c.law_whole-2.ensures.whole c.settle_records-tally.ensures.calm c.settle_records-tally.ensures.buffers)
          (does.heap_moves.stands run.state.map run.state.addresses at.stands.stands)
          c.settle_records-tally.ensures.buffers in
          subst (λ (r : OneRun). StandTogether r.state c.settle_records-tally.new.cache c.settle_records-tally.new.heap) (sym after.0) (record { stands = after.1; state = refl });
    }

-- the same at the end
end_freed : (c : goal.After-law_whole-2) (m : RecordMap) (addresses : List ℕ) → StandsFor m addresses c.args.heap.now.heap →
    HasFreed (record { map = m; cache = c.args.cache.now.state; addresses = addresses }) c.args.cache.now c.args.heap.now c.free_leftovers.new.cache c.free_leftovers.new.heap
end_freed c m addresses stands =
    let cache = c.args.cache.now in
    let heap = c.args.heap.now in
    let buffers = c.law_just_these.ensures cache.state heap.heap.objects c.law_whole.ensures.whole c.requires.size c.meet_all.ensures.out c.requires.count in
    let s : OneState = record { map = m; cache = cache.state; addresses = addresses } in
    freed_same s cache c.meet_all.new.cache c.free_leftovers.new.cache heap c.meet_all.new.heap c.free_leftovers.new.heap c.meet_all.ensures.cache c.meet_all.ensures.heap
    (c.free_leftovers.ensures.freed s (stand_same s cache c.meet_all.new.cache heap c.meet_all.new.heap c.meet_all.ensures.cache c.meet_all.ensures.heap
    (together m addresses cache heap c.law_whole.ensures.whole c.requires.calm stands buffers)))

end_of : (c : goal.After-law_whole-2) (m : RecordMap) (addresses : List ℕ) → StandsFor m addresses c.args.heap.now.heap →
    Ending m addresses c.args.cache.now c.free_leftovers.new.cache c.free_leftovers.new.heap c.settle_records-tally.new.cache c.settle_records-tally.new.heap c.settle_records-tally.result
end_of c m addresses stands =
    ending c.law_room.ensures.leftover c.law_stage.ensures.whole c.law_stage.ensures.said c.law_counts.ensures.out_along m addresses c.args.cache.now c.free_leftovers.new.cache c.settle_records-tally.new.cache
    c.args.heap.now c.free_leftovers.new.heap c.settle_records-tally.new.heap c.settle_records-tally.result (there_count c.args.heap.now.heap.objects ∙ c.requires.count) (end_freed c m addresses stands) c.settle_records-tally.ensures.settles

pub returns-clause-stands : goal.returns-clause-stands
returns-clause-stands c = λ m addresses stands. let e = end_of c m addresses stands in (e.others, e.stands)

pub returns-clause-records : goal.returns-clause-records
returns-clause-records c = (end_of c c.requires.stand.0 c.requires.stand.1 c.requires.stand.2).records

pub returns-clause-live : goal.returns-clause-live
returns-clause-live c = λ m addresses stands. (end_of c m addresses stands).live

pub returns-clause-fewest : goal.returns-clause-fewest
returns-clause-fewest c = λ m addresses stands free. (end_of c m addresses stands).fewest c.law_answers.ensures c.law_fewest.ensures free

pub returns-clause-answered : goal.returns-clause-answered
returns-clause-answered c = λ m addresses stands. (end_of c m addresses stands).answered c.law_answers.ensures
