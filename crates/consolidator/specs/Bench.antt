-- The bench of the tests.
use Rattle.std.specs.Prelude.{◌≡◌, length}
use Rattle.kmem_model.specs.One.{OneState}
use Rattle.kmem_model.specs.OneStands.{OneStands}
use Rattle.object_cache.specs.Cache.{CacheView}
use Rattle.record_heap.specs.View.{HeapView}

-- the heap takes the buffers of the cache, and together they stand for what `one` keeps after some commands
pub record IsSetUp (cache : CacheView) (heap : HeapView) : Type 0 where
  pub home : heap.home ≡ cache.home
  pub cells : length cache.home.cells ≡ length heap.heap.objects
  pub names : length heap.heap.names ≡ 48
  pub tags : length heap.heap.tags ≡ 128
  pub state : OneState
  pub stands : OneStands state heap.heap
  pub same : cache.state ≡ state.cache
