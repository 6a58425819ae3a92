-- What follows a run: leftovers are freed, the least address first, and then comes one settle (this project's own rule).
use Rattle.std.specs.Prelude.{ℕ, ◌≡◌, ◌+◌, ◌*◌, ◌<◌, ◌≤◌, Bool, true, false, List, [], ◌∷◌, map, count_by, Some, None}
use Rattle.kmem_model.specs.CacheState.{CacheState, out_count, slab_count}
use Rattle.kmem_model.specs.Records.{RecordMap, is_live, tag_count}
use Rattle.kmem_model.specs.CacheHistory.{Follows}
use Rattle.kmem_model.specs.declared.cache_entry.CacheEntry.TheVariants.{Free}
use Rattle.kmem_model.specs.Heap.{places_of}
use Rattle.kmem_model.specs.One.{OneState, buffers_of, least_leftover}
use Rattle.kmem_model.specs.OneRun.{is_fixed, without_leftover, without_leftovers, run_ended}
use Rattle.kmem_model.specs.OneStands.{OneStands}
use Rattle.object_cache.specs.Cache.{CacheView}
use Rattle.object_cache.specs.declared.tally.Tally.{Tally}
use Rattle.record_heap.specs.View.{HeapView}
use Rattle.consolidator.specs.Settles.{SettlesTo}

-- the cache and the heap in its buffers stand for a map, a state and addresses
pub record StandTogether (s : OneState) (cache : CacheView) (heap : HeapView) : Type 0 where
  pub stands : OneStands s heap.heap
  pub state : cache.state ≡ s.cache

-- there are fewer objects by as many as buffers are out
abbrev pub AreFewer : CacheView → HeapView → CacheView → HeapView → Type 0
AreFewer cache heap cache' heap' =
    count_by (λ x. x) (places_of heap'.heap.objects) + out_count cache.state ≡ count_by (λ x. x) (places_of heap.heap.objects) + out_count cache'.state

-- the least leftover was freed, if there was one
abbrev pub FreesOne : OneState → CacheView → HeapView → Bool → CacheView → HeapView → Type 0
FreesOne s cache heap true cache' heap' =
    (b : ℕ) × (least_leftover s ≡ Some b) × Follows cache.state (Free b ∷ []) cache'.state × StandTogether (without_leftover s b) cache' heap'
    × (count_by (λ x. x) (places_of heap'.heap.objects) + 1 ≡ count_by (λ x. x) (places_of heap.heap.objects))
FreesOne s cache heap false cache' heap' = (least_leftover s ≡ None) × (cache' ≡ cache) × (heap' ≡ heap)

-- these buffers were freed, one after another, and no others; no leftover is left, and there are fewer objects by as many as buffers are out
pub record HasFreed (s : OneState) (cache : CacheView) (heap : HeapView) (cache' : CacheView) (heap' : HeapView) : Type 0 where
  pub numbers : List ℕ
  pub frees : Follows cache.state (map (λ n. Free n) numbers) cache'.state
  pub stands : StandTogether (without_leftovers (buffers_of s.cache) s) cache' heap'
  pub none : least_leftover (without_leftovers (buffers_of s.cache) s) ≡ None
  pub counted : AreFewer cache heap cache' heap'

-- first leftovers were freed, and then the cache was settled; what the two stood for, they stand for afterwards, at other addresses
pub record IsWoundUp (cache : CacheView) (heap : HeapView) (cache' : CacheView) (heap' : HeapView) (settled : Tally) : Type 0 where
  pub between : CacheView
  pub heap_between : HeapView
  pub freed : (s : OneState) → StandTogether s cache heap → HasFreed s cache heap between heap_between
  pub settles : SettlesTo between cache' heap_between heap' settled
  pub stands : (s : OneState) → StandTogether s cache heap → StandTogether (run_ended (record { state = s; moves = [] })).state cache' heap'

-- Where no record has a tag or is fixed

abbrev pub AreAllFree : RecordMap → Type 0
AreAllFree m = (id : ℕ) → is_live m id ≡ true → (is_fixed m id ≡ false) × (tag_count m id ≡ 0)

-- how the moves of a settle end after the leftovers are freed: later only where some record has a tag, no only where some record is fixed, and
-- never not needed
pub record AreEndsDue (m : RecordMap) (tally : Tally) : Type 0 where
  pub later : ((id : ℕ) → is_live m id ≡ true → tag_count m id ≡ 0) → tally.later ≡ 0
  pub refused : ((id : ℕ) → is_live m id ≡ true → is_fixed m id ≡ false) → tally.no ≡ 0
  pub unneeded : tally.dont_need ≡ 0

-- the listed slabs are as few as can hold so many objects: their number is that of these divided by the buffers of a slab, rounded up
pub record IsOnFewest (objects : ℕ) (s : CacheState) : Type 0 where
  pub enough : objects ≤ slab_count s * s.chunks
  pub fewest : slab_count s * s.chunks < objects + s.chunks
