use Rattle.std.proofs.Common.{◌≡◌, ◌≤◌, ℕ, false, Some, length, get_or, ap, sym, ◌∙◌, subst}
use Rattle.slab_list.specs.Slabs.{ListState}
use Rattle.kmem_model.specs.declared.cache_entry.CacheEntry.{CacheEntry}
use Rattle.kmem_model.specs.CacheEnter.{enter}
use Rattle.kmem_model.proofs.SettleWhole.{enter_sizes, enter_whole}
use Rattle.object_cache.specs.Cache.{AreJoined, cache_of}
use Rattle.object_cache.specs.Moves.{MovesState, is_left_out_of}
use Rattle.object_cache.specs.declared.scan.Scan.{Scan}

-- the parts are joined after an entry, as they were before
pub joined : (list next : ListState) (moves after : MovesState) (scan then : Scan) (entry : CacheEntry) →
    AreJoined list moves scan → enter (cache_of list moves scan).state entry ≡ Some (cache_of next after then).state →
    length next.cells ≡ length list.cells → then.numerator ≡ scan.numerator → length next.skip ≡ length list.skip →
    ((b : ℕ) → get_or next.skip b false ≡ is_left_out_of after.asked after.pending b) → AreJoined next after then
joined list next moves after scan then entry it entered cells numerator skips left_out =
    record {
      skips = skips ∙ (it.skips ∙ sym cells);
      left_out = left_out;
      size = (enter_sizes (cache_of list moves scan).state (cache_of next after then).state entry entered).asked ∙ (it.size ∙ sym cells);
      few = subst (λ n. n ≤ 65536) (sym cells) it.few;
      least = subst (λ n. 1 ≤ n) (sym numerator) it.least;
      most = subst (λ n. n ≤ 8) (sym numerator) it.most;
      whole = enter_whole (cache_of list moves scan).state (cache_of next after then).state entry it.whole entered;
    }

-- and where nothing changes what a scan leaves out
pub joined_same : (list next : ListState) (moves : MovesState) (scan then : Scan) (entry : CacheEntry) →
    AreJoined list moves scan → enter (cache_of list moves scan).state entry ≡ Some (cache_of next moves then).state →
    length next.cells ≡ length list.cells → then.numerator ≡ scan.numerator → next.skip ≡ list.skip → AreJoined next moves then
joined_same list next moves scan then entry it entered cells numerator same =
    joined list next moves moves scan then entry it entered cells numerator (ap length same) (λ b. ap (λ bs. get_or bs b false) same ∙ it.left_out b)
