-- What is at the end, from what is before the settle.
use Rattle.std.proofs.Common.{◌≡◌, ◌+◌, ◌*◌, ◌<◌, ◌≤◌, ℕ, Bool, true, false, List, None, Some, is_some, count_by, refl, sym, ap, ◌∙◌, subst, arith}
use Rattle.kmem_model.specs.CacheState.{CacheState, out_count, slab_count, has_pending}
use Rattle.kmem_model.specs.CacheHistory.{Follows}
use Rattle.kmem_model.specs.CacheCounts.{total, made_out, made_free}
use Rattle.kmem_model.specs.declared.cache_entry.CacheEntry.{CacheEntry}
use Rattle.kmem_model.specs.Records.{RecordMap, is_live, live_count}
use Rattle.kmem_model.specs.Heap.{HeapState, StandsFor, has_record, least_left_in, object_at, places_of}
use Rattle.kmem_model.specs.Says.{says, stage_in, AreInBuffers}
use Rattle.kmem_model.specs.One.{OneState, least_leftover, buffers_of}
use Rattle.kmem_model.specs.OneRun.{answer_by, answer_at, addresses_moved, without_leftovers}
use Rattle.kmem_model.specs.OneStands.{OneStands}
use Rattle.kmem_model.specs.Settle.{Stage, Course, said_at, settled_in}
use Rattle.kmem_model.specs.SettleWhole.{IsWhole, IsWholeStage, is_movable, AreAllMovable, HasFewestSlabs, enough}
use Rattle.kmem_model.specs.Report.{is_no, is_later, is_dont_need}
use Rattle.kmem_model.specs.declared.cache_entry.Said.{Said}
use Rattle.kmem_model.specs.declared.cache_entry.Said.TheVariants.{DontKnow}
use Rattle.object_cache.specs.Cache.{CacheView}
use Rattle.object_cache.specs.declared.tally.Tally.{Tally}
use Rattle.record_heap.specs.View.{HeapView}
use Rattle.consolidator.specs.Settles.{SettlesTo}
use Rattle.run_end.specs.Ends.{StandTogether, HasFreed, AreAllFree, AreEndsDue, IsOnFewest}
use Rattle.run_end.proofs.Left.{without_map, as_many, needed_by, settled_kept, has_records, all_such, such_movable, such_now, such_loose, such_needed}
use Rattle.run_end.proofs.Asked.{AreAmong, WereAmong, settled_among, is_other_than, none_later, none_refused, none_unneeded}
use Rattle.run_end.proofs.Sizes.{follows_sizes}
use Rattle.run_end.proofs.Settling.{stand_calm, stand_buffers}

abbrev Answers : Type 0
Answers = (s : OneState) (h : HeapState) (b : ℕ) → OneStands s h → says h true b ≡ answer_at s b

abbrev Fewest : Type 0
Fewest = (n : ℕ) (stage : Stage) (result : Course) → IsWholeStage stage → AreAllMovable stage → settled_in n stage ≡ Some result → HasFewestSlabs stage.cache result.stage.cache

pub record Ending (m : RecordMap) (addresses : List ℕ) (cache between : CacheView) (heap_between : HeapView) (cache' : CacheView) (heap' : HeapView) (tally : Tally) : Type 0 where
  pub others : List ℕ
  pub stands : StandsFor m others heap'.heap
  pub records : (b : ℕ) → is_some (object_at heap'.heap b) ≡ true → has_record (object_at heap'.heap b) ≡ true
  pub live : out_count cache'.state ≡ live_count m
  pub fewest : Answers → Fewest → AreAllFree m → IsOnFewest (live_count m) cache'.state
  pub answered : Answers → AreEndsDue m tally

pub ending : ((s : OneState) (h : HeapState) → OneStands s h → least_left_in h ≡ least_leftover s) →
    ((cache : CacheState) (h : HeapState) → IsWhole cache → has_pending cache ≡ false → AreInBuffers cache h.objects → IsWholeStage (stage_in cache h.objects)) →
    ((cache : CacheState) (h : HeapState) (b : ℕ) → said_at (stage_in cache h.objects) b ≡ says h true b) →
    ((s t : CacheState) (entries : List CacheEntry) → IsWhole s → Follows s entries t → out_count t + total made_free entries ≡ out_count s + total made_out entries) →
    (m : RecordMap) (addresses : List ℕ) (cache between cache' : CacheView) (heap heap_between heap' : HeapView) (tally : Tally) →
    count_by (λ x. x) (places_of heap.heap.objects) ≡ out_count cache.state →
    HasFreed (record { map = m; cache = cache.state; addresses = addresses }) cache heap between heap_between → SettlesTo between cache' heap_between heap' tally →
    Ending m addresses cache between heap_between cache' heap' tally
ending leftover whole said along m addresses cache between cache' heap heap_between heap' tally counts freed does =
    record {
      others = addresses_moved s.addresses does.moves;
      stands = subst (λ (r : RecordMap). StandsFor r (addresses_moved s.addresses does.moves) heap'.heap) same_map (does.heap_moves.stands s.map s.addresses at.stands.stands);
      records = has_records heap'.heap cache'.state (said cache'.state heap'.heap) kept.0;
      live = live_so;
      fewest = λ answers fewest free. fewest_so (fewest (enough stage) stage course whole_so (movable answers free) does.settle);
      answered = answered_so;
    }
  where
    before : OneState
    before = record { map = m; cache = cache.state; addresses = addresses }

    s : OneState
    s = without_leftovers (buffers_of cache.state) (record { map = m; cache = cache.state; addresses = addresses })

    at : StandTogether (without_leftovers (buffers_of cache.state) (record { map = m; cache = cache.state; addresses = addresses })) between heap_between
    at = freed.stands

    same_map : (without_leftovers (buffers_of cache.state) (record { map = m; cache = cache.state; addresses = addresses })).map ≡ m
    same_map = without_map (buffers_of cache.state) (record { map = m; cache = cache.state; addresses = addresses })

    none : least_left_in heap_between.heap ≡ None
    none = leftover _ heap_between.heap at.stands ∙ freed.none

    stage : Stage
    stage = stage_in between.state heap_between.heap.objects

    course : Course
    course = record { stage = stage_in cache'.state heap'.heap.objects; moves = does.moves }

    whole_so : IsWholeStage (stage_in between.state heap_between.heap.objects)
    whole_so = whole between.state heap_between.heap (subst IsWhole (sym at.state) at.stands.whole) (stand_calm _ between heap_between at) (stand_buffers _ between heap_between at)

    kept : ((b : ℕ) → is_dont_need (said_at (stage_in cache'.state heap'.heap.objects) b) ≡ false) × (out_count cache'.state ≡ out_count between.state)
    kept = settled_kept along (enough (stage_in between.state heap_between.heap.objects)) (stage_in between.state heap_between.heap.objects)
        (record { stage = stage_in cache'.state heap'.heap.objects; moves = does.moves }) whole_so
        (needed_by heap_between.heap between.state (said between.state heap_between.heap) none) does.settle

    left : out_count between.state ≡ live_count m
    left =
        omega (
          arith,
          freed.counted,
          counts,
          as_many _ _ heap_between.heap at.stands.stands none,
          ap live_count same_map,
        )

    live_so : out_count cache'.state ≡ live_count m
    live_so = kept.1 ∙ left

    such : (among : Said → Bool) → among DontKnow ≡ true → Answers → ((id : ℕ) → is_live m id ≡ true → among (answer_by m (Some id)) ≡ true) →
        AreAmong among (stage_in between.state heap_between.heap.objects)
    such among unknown answers each =
        let t : OneState = without_leftovers (buffers_of cache.state) (record { map = m; cache = cache.state; addresses = addresses }) in
        subst (λ (x : CacheState). AreAmong among (stage_in x heap_between.heap.objects)) (sym at.state)
        (all_such among unknown t heap_between.heap at.stands
        (subst (λ (r : RecordMap). (id : ℕ) → is_live r id ≡ true → among (answer_by r (Some id)) ≡ true) (sym same_map) each) freed.none
        (said t.cache heap_between.heap) (λ b. answers t heap_between.heap b at.stands))

    movable : Answers → AreAllFree m → AreAllMovable (stage_in between.state heap_between.heap.objects)
    movable answers free = such is_movable refl answers (λ id live. such_movable m id (free id live).0 (free id live).1)

    were : (among : Said → Bool) → among DontKnow ≡ true → Answers → ((id : ℕ) → is_live m id ≡ true → among (answer_by m (Some id)) ≡ true) → WereAmong among does.moves
    were among unknown answers each =
        settled_among among unknown (enough (stage_in between.state heap_between.heap.objects)) (stage_in between.state heap_between.heap.objects)
        (record { stage = stage_in cache'.state heap'.heap.objects; moves = does.moves }) (such among unknown answers each) does.settle

    answered_so : Answers → AreEndsDue m tally
    answered_so answers =
        record {
          later = λ untagged. ap (λ (t : Tally). t.later) does.counts ∙ none_later does.moves (were (is_other_than is_later) refl answers (λ id live. such_now m id (untagged id live)));
          refused = λ loose. ap (λ (t : Tally). t.no) does.counts ∙ none_refused does.moves (were (is_other_than is_no) refl answers (λ id live. such_loose m id (loose id live)));
          unneeded = ap (λ (t : Tally). t.dont_need) does.counts ∙ none_unneeded does.moves (were (is_other_than is_dont_need) refl answers (λ id live. such_needed m id));
        }

    fewest_so : HasFewestSlabs between.state cache'.state → IsOnFewest (live_count m) cache'.state
    fewest_so f =
        let chunks : between.state.chunks ≡ cache'.state.chunks = sym (follows_sizes does.entries between.state cache'.state does.made.follows).chunks in
        record {
          enough = subst (λ n. n ≤ slab_count cache'.state * cache'.state.chunks) left (subst (λ c. out_count between.state ≤ slab_count cache'.state * c) chunks f.enough);
          fewest = subst (λ n. slab_count cache'.state * cache'.state.chunks < n + cache'.state.chunks) left
              (subst (λ c. slab_count cache'.state * c < out_count between.state + c) chunks f.fewest);
        }
