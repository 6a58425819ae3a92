-- A buffer that comes back, and then its slab where none of it is out any more.
use Rattle.std.proofs.Common.{◌≡◌, ℕ, ◌<◌, ◌/◌, ◌%◌, ◌==◌, Bool, true, false, cond, List, length, set, count_by, None, ◌∙◌, ap, refl}
use Rattle.std.proofs.lemmas.Bool.{both_ways}
use Rattle.std.proofs.lemmas.List.{get_or-set_same, set-set}
use Rattle.kmem_model.specs.CacheState.{SlabState, slab_at, no_slab, is_same_standing, is_listed, is_in_source}
use Rattle.kmem_model.specs.CacheOrder.{is_the}
use Rattle.kmem_model.specs.CacheEnter.{slab_freed}
use Rattle.kmem_model.specs.declared.cache_state.Standing.{Standing}
use Rattle.kmem_model.specs.declared.cache_state.Standing.TheVariants.{Source, Listed, Dead}
use Rattle.slab_list.specs.Slabs.{ListState, slab_with, on_slab, on_buffer}
use Rattle.object_cache.specs.Stock.{slab_closed}
use Rattle.object_cache.proofs.Lists.{reads_within}

-- a listed slab is one of the list
pub listed_within : (slabs : List SlabState) (i : ℕ) → is_listed (slab_at slabs i) ≡ true → i < length slabs
listed_within slabs i listed = reads_within slabs i no_slab is_listed refl listed

listed_apart : (t : Standing) → is_same_standing Listed t ≡ true → is_same_standing Source t ≡ false
listed_apart Source e = absurd (both_ways false refl e)
listed_apart Listed e = refl
listed_apart Dead e = refl

pub listed_not_source : (slab : SlabState) → is_listed slab ≡ true → is_in_source slab ≡ false
listed_not_source slab listed = listed_apart slab.standing listed

module _ (to : Standing) (slab : SlabState) (k : ℕ) where
  abbrev out_left : List Bool
  out_left = set slab.out k false

  abbrev is_empty : Bool
  is_empty = count_by (λ (x : Bool). x) out_left == 0

  abbrev freed : Standing → Bool → Bool → SlabState
  freed at empty stuck =
      cond empty (record { standing = at; out = out_left; later = 0; stuck = None })
      (cond stuck (record { standing = slab.standing; out = out_left; later = 0; stuck = None }) (record slab { out = out_left }))

  closed : (empty stuck : Bool) → is_empty ≡ empty → slab_closed to (freed Listed empty stuck) ≡ freed to empty stuck
  closed true stuck e = rw e refl
  closed false true e = rw e refl
  closed false false e = rw e refl

  pub closed_freed : slab_closed to (slab_freed Listed slab k) ≡ slab_freed to slab k
  closed_freed = closed is_empty (is_the slab.stuck k) refl

pub give_closed : (list : ListState) (b : ℕ) (to : Standing) → is_listed (slab_with list b) ≡ true →
    on_slab (on_buffer list b (slab_freed Listed)) (b / list.chunks) (slab_closed to) ≡ on_buffer list b (slab_freed to)
give_closed list b to listed =
    let i = b / list.chunks in
    let k = b % list.chunks in
    let x = slab_freed Listed (slab_at list.slabs i) k in
    ap (λ (slabs : List SlabState). record list { slabs = slabs })
    (ap (λ slab. set (set list.slabs i x) i (slab_closed to slab)) (get_or-set_same list.slabs i x no_slab (listed_within list.slabs i listed))
    ∙ (set-set list.slabs i x (slab_closed to x) ∙ ap (set list.slabs i) (closed_freed to (slab_at list.slabs i) k)))
