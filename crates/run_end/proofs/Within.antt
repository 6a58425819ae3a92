-- What holds while leftovers are freed.
use Rattle.std.specs.Prelude.{ℕ, ◌≡◌, ◌≤◌, Bool, false, List, None, map, count_by}
use Rattle.kmem_model.specs.CacheHistory.{Follows}
use Rattle.kmem_model.specs.declared.cache_entry.CacheEntry.TheVariants.{Free}
use Rattle.kmem_model.specs.Heap.{places_of}
use Rattle.kmem_model.specs.One.{OneState, buffers_of, least_leftover}
use Rattle.kmem_model.specs.OneRun.{without_leftovers}
use Rattle.object_cache.specs.Cache.{CacheView}
use Rattle.record_heap.specs.View.{HeapView}
use Rattle.run_end.specs.Ends.{StandTogether, AreFewer}

-- what is left after some leftovers were freed, and that freeing the rest leaves what freeing all does
pub record IsFreeing (s : OneState) (cache : CacheView) (heap : HeapView) (cache' : CacheView) (heap' : HeapView) (more : Bool) : Type 0 where
  pub n : ℕ
  pub state : OneState
  pub stands : StandTogether state cache' heap'
  pub fuel : count_by (λ x. x) (places_of heap'.heap.objects) ≤ n
  pub same : without_leftovers n state ≡ without_leftovers (buffers_of s.cache) s
  pub last : more ≡ false → least_leftover state ≡ None
  pub numbers : List ℕ
  pub frees : Follows cache.state (map (λ n. Free n) numbers) cache'.state
  pub counted : AreFewer cache heap cache' heap'
