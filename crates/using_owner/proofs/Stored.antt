-- What is kept of a store, where a word comes and where one goes.
use Rattle.std.proofs.Common.{◌≡◌, ◌≢◌, ℕ, zero, suc, ◌*◌, ◌<◌, ◌==◌, ◌&&◌, ◌||◌, not, true, false, List, length, get_or, set, replicate, Some, None, subst, ⊎_elim, sym, ◌∙◌, ap, refl}
use Rattle.std.proofs.lemmas.List.{length-replicate, length-set, get_or_past, get_or-set_same, get_or-set_other}
use Rattle.std.proofs.lemmas.Bool.{cases_eq, cases_lt, eq-eqb, ne_eqb}
use Rattle.kmem_buf.specs.Owners.{stand_at}
use Rattle.kmem_buf.specs.declared.owner.Stand.{Stand}
use Rattle.kmem_buf.specs.declared.owner.Stand.TheVariants.{Movable, Spare, Fixed, Busy, Unknown}
use Rattle.kmem_model.proofs.PlacesKept.{then_some_says}
use Rattle.kmem_model.specs.CacheState.{CacheState, sizes_of, opening, is_out, has_pending}
use Rattle.kmem_model.specs.CacheEnter.{enter, may_take, with_out, on_slab_of, slab_freed, emptied_goes}
use Rattle.kmem_model.specs.SettleWhole.{IsWholeStage, is_known}
use Rattle.kmem_model.specs.declared.cache_entry.CacheEntry.TheVariants.{Alloc, Free}
use Rattle.kmem_model.specs.declared.cache_entry.Said.TheVariants.{DontKnow}
use Rattle.consolidator.specs.Owned.{has_object, AreOwned}
use Rattle.using_owner.specs.Shelves.{ShelfState}
use Rattle.using_owner.specs.Stores.{Has}

replicated : {A : Type 0} (n i : ℕ) (a : A) → get_or (replicate n a) i a ≡ a
replicated zero i a = refl
replicated (suc n) zero a = refl
replicated (suc n) (suc i) a = replicated n i a

-- at the start
pub start : (slabs chunks : ℕ) → IsWholeStage (record { cache = opening (sizes_of slabs chunks 1); says = replicate (slabs * chunks) DontKnow }) →
    AreOwned (opening (sizes_of slabs chunks 1)) (replicate (slabs * chunks) Unknown)
start slabs chunks whole = record {
  size = length-replicate (slabs * chunks) Unknown ∙ sym (length-replicate (slabs * chunks) false);
  places = λ b. ap has_object (replicated (slabs * chunks) b Unknown) ∙ (sym (ap is_known (replicated (slabs * chunks) b DontKnow)) ∙ whole.known b);
}

-- an object is known wherever the owner has one
known_is : (stand : Stand) → stand ≢ Unknown → has_object stand ≡ true
known_is Movable known = refl
known_is Spare known = refl
known_is Fixed known = refl
known_is Busy known = refl
known_is Unknown known = absurd (known refl)

-- a number at which something stands is one of a place
pub stand_within : (stands : List Stand) (n : ℕ) → stand_at stands n ≢ Unknown → n < length stands
stand_within stands n known = ⊎_elim (λ below. below) (λ past. absurd (known (get_or_past stands n Unknown past))) (cases_lt n (length stands))

-- after an entry, what is pending is as before, and so is the number of buffers
pub record IsQuiet (s t : CacheState) : Type 0 where
  pub pending : t.pending ≡ s.pending
  pub asked : t.asked ≡ s.asked

pub alloc_quiet : (s t : CacheState) (n : ℕ) → enter s (Alloc n) ≡ Some t → IsQuiet s t
alloc_quiet s t n e =
    let is = (then_some_says (may_take s n) (with_out s n) t e).1 in
    record { pending = ap (λ (x : CacheState). x.pending) (sym is); asked = ap (λ (x : CacheState). x.asked) (sym is) }

pub free_quiet : (s t : CacheState) (n : ℕ) → enter s (Free n) ≡ Some t → IsQuiet s t
free_quiet s t n e =
    let is = (then_some_says (is_out s n) (on_slab_of s n (slab_freed (emptied_goes s))) t e).1 in
    record { pending = ap (λ (x : CacheState). x.pending) (sym is); asked = ap (λ (x : CacheState). x.asked) (sym is) }

pub calm_still : (s t : CacheState) → IsQuiet s t → has_pending s ≡ false → has_pending t ≡ false
calm_still s t quiet calm = ap (λ pending. has_pending (record s { pending = pending })) quiet.pending ∙ calm

-- a word comes
pub owned_more : (s t : CacheState) (stands : List Stand) (n : ℕ) (stand : Stand) → stand ≢ Unknown → n < length stands → ((b : ℕ) → is_out t b ≡ (b == n || is_out s b)) → IsQuiet s t → AreOwned s stands →
    AreOwned t (set stands n stand)
owned_more s t stands n stand known low outs quiet owned = record {
  size = length-set stands n stand ∙ (owned.size ∙ sym (ap length quiet.asked));
  places = λ b.
      ⊎_elim
      (λ at.
      ap (λ k. has_object (get_or (set stands n stand) k Unknown)) at
      ∙ (ap has_object (get_or-set_same stands n stand Unknown low)
      ∙ (known_is stand known ∙ (sym (ap (λ t. t || is_out s b) (eq-eqb b n at)) ∙ sym (outs b)))))
      (λ off.
      ap has_object (get_or-set_other stands n b stand Unknown off)
      ∙ (owned.places b ∙ (sym (ap (λ t. t || is_out s b) (ne_eqb b n off)) ∙ sym (outs b))))
      (cases_eq b n);
}

-- a word goes
pub owned_less : (s t : CacheState) (stands : List Stand) (n : ℕ) → n < length stands → ((b : ℕ) → is_out t b ≡ (not (b == n) && is_out s b)) → IsQuiet s t → AreOwned s stands →
    AreOwned t (set stands n Unknown)
owned_less s t stands n low outs quiet owned = record {
  size = length-set stands n Unknown ∙ (owned.size ∙ sym (ap length quiet.asked));
  places = λ b.
      ⊎_elim
      (λ at.
      ap (λ k. has_object (get_or (set stands n Unknown) k Unknown)) at
      ∙ (ap has_object (get_or-set_same stands n Unknown Unknown low)
      ∙ (sym (ap (λ t. not t && is_out s b) (eq-eqb b n at)) ∙ sym (outs b))))
      (λ off.
      ap has_object (get_or-set_other stands n b Unknown Unknown off)
      ∙ (owned.places b ∙ (sym (ap (λ t. not t && is_out s b) (ne_eqb b n off)) ∙ sym (outs b))))
      (cases_eq b n);
}

-- where a word was put it is
pub put_there : (old new : ShelfState) (n m word : ℕ) (stand : Stand) → n < length old.stands → n < length old.words → m ≡ n →
    new ≡ record old { stands = set old.stands n stand; words = set old.words n (Some word) } → Has new m word stand
put_there old new n m word stand low many same is =
    subst (λ (s : ShelfState). Has s m word stand) (sym is)
    (subst (λ k. Has (record old { stands = set old.stands n stand; words = set old.words n (Some word) }) k word stand) (sym same)
    (get_or-set_same old.words n (Some word) None many, get_or-set_same old.stands n stand Unknown low))
