-- A cache and a heap before and after they are settled.
use Rattle.std.proofs.Common.{◌≡◌, ℕ, false, List, length, refl, sym, ap, ◌∙◌, subst}
use Rattle.kmem_model.specs.CacheState.{CacheState, has_pending, is_out}
use Rattle.kmem_model.specs.Records.{RecordMap}
use Rattle.kmem_model.specs.Heap.{StandsFor}
use Rattle.kmem_model.specs.Says.{AreInBuffers}
use Rattle.kmem_model.specs.SettleWhole.{IsWhole}
use Rattle.kmem_model.specs.One.{OneState}
use Rattle.object_cache.specs.Cache.{CacheView}
use Rattle.record_heap.specs.View.{HeapView}
use Rattle.run_end.specs.Ends.{StandTogether, HasFreed}

pub together : (m : RecordMap) (addresses : List ℕ) (cache : CacheView) (heap : HeapView) → IsWhole cache.state → has_pending cache.state ≡ false →
    StandsFor m addresses heap.heap → AreInBuffers cache.state heap.heap.objects → StandTogether (record { map = m; cache = cache.state; addresses = addresses }) cache heap
together m addresses cache heap whole calm stands buffers =
    record {
      stands = record { whole = whole; calm = calm; stands = stands; size = buffers.size; places = buffers.places };
      state = refl;
    }

pub stand_same : (s : OneState) (cache cache' : CacheView) (heap heap' : HeapView) → cache' ≡ cache → heap' ≡ heap → StandTogether s cache heap → StandTogether s cache' heap'
stand_same s cache cache' heap heap' same alike at = subst (λ (h : HeapView). StandTogether s cache' h) (sym alike) (subst (λ (c : CacheView). StandTogether s c heap) (sym same) at)

pub stand_calm : (s : OneState) (cache : CacheView) (heap : HeapView) → StandTogether s cache heap → has_pending cache.state ≡ false
stand_calm s cache heap at = ap has_pending at.state ∙ at.stands.calm

pub stand_buffers : (s : OneState) (cache : CacheView) (heap : HeapView) → StandTogether s cache heap → AreInBuffers cache.state heap.heap.objects
stand_buffers s cache heap at =
    record {
      size = at.stands.size ∙ ap (λ (t : CacheState). length t.asked) (sym at.state);
      places = λ b. at.stands.places b ∙ ap (λ (t : CacheState). is_out t b) (sym at.state);
    }

pub freed_same : (s : OneState) (cache start between : CacheView) (heap begin heap' : HeapView) → start ≡ cache → begin ≡ heap → HasFreed s start begin between heap' → HasFreed s cache heap between heap'
freed_same s cache start between heap begin heap' same alike h =
    subst (λ (x : HeapView). HasFreed s cache x between heap') alike (subst (λ (x : CacheView). HasFreed s x begin between heap') same h)
