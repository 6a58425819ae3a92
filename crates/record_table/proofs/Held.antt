-- What a tag keeps at its address.
use Rattle.std.proofs.Common.{◌≡◌, ◌≢◌, ℕ, ◌<◌, nat_lt, Bool, true, false, cond, List, length, get_or, set, map, Option, Some, None, is_some, is_none, option_map, ⊎_elim, sym, ap, ◌∙◌, refl, subst}
use Rattle.std.proofs.lemmas.Bool.{both_ways, cases_lt, lt-ltb}
use Rattle.std.proofs.lemmas.List.{get_or-set_same, get_or_past, set_past}
use Rattle.kmem_text.specs.declared.command.Command.TheVariants.{Del}
use Rattle.kmem_buf.specs.Buffers.{BufState}
use Rattle.kmem_model.specs.declared.cache_entry.Said.TheVariants.{Yes, No, Later, DontNeed}
use Rattle.kmem_model.specs.Records.{RecordMap, id_of}
use Rattle.kmem_model.specs.RecordStep.{del_step}
use Rattle.kmem_model.specs.Heap.{Object, HeapState, StandsFor, object_at, hold_at, has_record, is_leftover, least_left_in, address_in, places_of}
use Rattle.kmem_model.specs.Says.{answer_about, says}
use Rattle.kmem_model.proofs.CacheLists.{get_or-map_default}
use Rattle.kmem_model.proofs.CacheSearch.{least_from_some}
use Rattle.kmem_model.proofs.Heaps.{tag_lives, live_object}
use Rattle.kmem_model.proofs.RecordsValid.{leads_counts}
use Rattle.kmem_model.proofs.StepTags.{tags_stay}
use Rattle.record_heap.specs.View.{HeapView, IsStepBy, IsHandedOut}

-- the object at the address of a tag: it has a record, and is held
pub record IsHeldObject (h : HeapState) (b : ℕ) : Type 0 where
  pub o : Object
  pub at : object_at h b ≡ Some o
  pub has : is_none o.value ≡ false
  pub held : nat_lt 0 o.holds ≡ true

pub held_object : (m : RecordMap) (addresses : List ℕ) (h : HeapState) (place b : ℕ) → StandsFor m addresses h → hold_at h place ≡ Some b → IsHeldObject h b
held_object m addresses h place b stands there = by (object_at h b) refl (stands.paired.tied.held place b there)
  where
    some_not_none : (v : Option (List ℕ)) → is_some v ≡ true → is_none v ≡ false
    some_not_none (Some v) e = refl
    some_not_none None e = absurd (both_ways false refl e)

    by : (x : Option Object) → object_at h b ≡ x → is_some x ≡ true → IsHeldObject h b
    by None e some = absurd (both_ways false refl some)
    by (Some o) e some =
        let lives = tag_lives m addresses h place b stands.valid stands.paired there in
        let has : has_record (Some o) ≡ true = live_object m addresses h lives.id (Some o) stands.paired lives.live (ap (object_at h) lives.address ∙ e) in
        let held : 0 < o.holds = subst (λ n. 0 < n) (sym (stands.paired.tied.objects b o e).holds) (leads_counts h.tags place b there) in
        record { o = o; at = e; has = some_not_none o.value has; held = lt-ltb 0 o.holds held }

pub says_of : (h : HeapState) (b : ℕ) → IsHeldObject h b → (says h true b ≢ Yes) × (says h true b ≢ DontNeed)
says_of h b it =
    let is = ap answer_about it.at in (
      λ e. not_yes (is_none it.o.value) it.o.fixed (nat_lt 0 it.o.holds) it.held (sym is ∙ e),
      λ e. not_needed (is_none it.o.value) it.o.fixed (nat_lt 0 it.o.holds) it.has (sym is ∙ e),
    )
  where
    not_yes : (x y z : Bool) → z ≡ true → cond x DontNeed (cond y No (cond z Later Yes)) ≡ Yes → ⊥
    not_yes true y z e f = cc
    not_yes false true z e f = cc
    not_yes false false true e f = cc
    not_yes false false false e f = cc

    not_needed : (x y z : Bool) → x ≡ false → cond x DontNeed (cond y No (cond z Later Yes)) ≡ DontNeed → ⊥
    not_needed true y z e f = cc
    not_needed false true z e f = cc
    not_needed false false true e f = cc
    not_needed false false false e f = cc

pub not_left : (h : HeapState) (b : ℕ) → IsHeldObject h b → least_left_in h ≡ Some b → ⊥
not_left h b it e =
    let found = least_from_some (length h.objects) (λ c. is_leftover (object_at h c)) b e in
    both_ways (is_leftover (object_at h b)) (ap is_leftover it.at ∙ it.has) found.passes

-- a deletion leaves the tags, so the object at a tag's address stays
pub not_handed : (m : RecordMap) (addresses : List ℕ) (old new : HeapView) (name place b : ℕ) (buf : BufState Object) → StandsFor m addresses old.heap →
    IsStepBy old.heap new.heap (λ n. (del_step n name (id_of n name)).map) → IsHandedOut old name buf new → hold_at old.heap place ≡ Some b → buf.number ≡ b → ⊥
not_handed m addresses old new name place b buf stands next out there same =
    let after = next m addresses stands in
    let tags : new.heap.tags ≡ old.heap.tags =
    after.paired.tags ∙ (ap (map (option_map (address_in addresses))) (tags_stay m 1 (Del (record { 0 = name })) refl) ∙ sym stands.paired.tags) in
    let still = after.paired.tied.held place b (ap (λ xs. get_or xs place None) tags ∙ there) in
    let gone : is_some (object_at new.heap b) ≡ false =
    sym (get_or-map_default is_some new.heap.objects b None) ∙ (ap (λ ps. get_or ps b false) out.places ∙ (ap (λ n. get_or (set (places_of old.heap.objects) n false) b false) same ∙ cleared (places_of old.heap.objects))) in
    both_ways (is_some (object_at new.heap b)) gone still
  where
    cleared : (ps : List Bool) → get_or (set ps b false) b false ≡ false
    cleared ps =
        ⊎_elim (λ low. get_or-set_same ps b false false low) (λ past. ap (λ qs. get_or qs b false) (set_past ps b false past) ∙ get_or_past ps b false past) (cases_lt b (length ps))
