-- How the objects of a heap stand, and who their tenants are, after an answer.
use Rattle.std.proofs.Common.{◌≡◌, ◌≢◌, ℕ, zero, suc, ◌+◌, ◌<◌, Bool, true, false, cond, nat_lt, List, [], ◌∷◌, length, map, get_or, set, Option, Some, None, is_some, is_none, IfSome, option_map, ⊎_elim, subst, sym, ◌∙◌, ap, ap₂, refl, arith}
use Rattle.std.specs.List.{range_with_len}
use Rattle.std.proofs.lemmas.Bool.{cases_eq, cases_Bool, cond-false}
use Rattle.std.proofs.lemmas.List.{map-set, get_or-set_same, get_or-set_other, length-set, ext_get_or}
use Rattle.std.proofs.lemmas.List.FromFn.{get_or-map-range_with_len, length-map-range_with_len}
use Rattle.kmem_buf.specs.declared.owner.Stand.{Stand}
use Rattle.kmem_buf.specs.declared.owner.Stand.TheVariants.{Movable, Spare, Fixed, Busy, Unknown}
use Rattle.kmem_buf.specs.declared.client.Verdict.{Verdict}
use Rattle.kmem_buf.specs.declared.client.Verdict.TheVariants as verdict
use Rattle.kmem_buf.specs.Owners.{verdict_about, stand_at, verdict_at, after_verdict, stands_after, tenants_after}
use Rattle.kmem_model.proofs.CacheLists.{get_or-map_default}
use Rattle.kmem_model.proofs.RecordsValid.{is_the_some, leads_counts, read_within}
use Rattle.kmem_model.proofs.Relocates as relocates
use Rattle.kmem_model.proofs.Relocates.{yes_is}
use Rattle.kmem_model.specs.CacheOrder.{is_the}
use Rattle.kmem_model.specs.Records.{RecordMap}
use Rattle.kmem_model.specs.Heap.{Object, HeapState, object_at, IsTied, StandsFor}
use Rattle.kmem_model.specs.Says.{answer_about, says, heap_after, addresses_after, relocated, without_object}
use Rattle.kmem_model.specs.declared.cache_entry.Said.{Said}
use Rattle.kmem_model.specs.declared.cache_entry.Said.TheVariants as said
use Rattle.kmem_answers.specs.Words.{said_of}
use Rattle.record_heap.specs.View.{HeapView, IsFrame}
use Rattle.record_heap.specs.Tenants.{TenantState, stand_of, stands_of, tags_from, tags_at, tenant_at, tenants_in, tenants_of, MeaningState, HasMeaning}

-- Stands

-- the answer by how an object stands is the answer about it
pub about_stand : (x : Option Object) → said_of (verdict_about (stand_of x)) ≡ answer_about x
about_stand None = refl
about_stand (Some o) = by (is_none o.value) o.fixed (nat_lt 0 o.holds)
  where
    by : (none fixed held : Bool) → said_of (verdict_about (cond none Spare (cond fixed Fixed (cond held Busy Movable)))) ≡ cond none said.DontNeed (cond fixed said.No (cond held said.Later said.Yes))
    by true fixed held = refl
    by false true held = refl
    by false false true = refl
    by false false false = refl

-- how the object at an address stands
pub stand_is : (h : HeapView) (b : ℕ) → stand_at (stands_of h) b ≡ stand_of (object_at h.heap b)
stand_is h b = get_or-map_default stand_of h.heap.objects b None

-- the answer about the address is the right one
pub says_is : (h : HeapView) (b : ℕ) → says h.heap true b ≡ said_of (verdict_at (stands_of h) b)
says_is h b = sym (about_stand (object_at h.heap b)) ∙ ap (λ s. said_of (verdict_about s)) (sym (stand_is h b))

-- how they stand after an answer
stands_by : (h : HeapState) (from to : ℕ) (v : Verdict) → map stand_of (heap_after h from to (said_of v)).objects ≡ after_verdict Unknown v from to (map stand_of h.objects)
stands_by h from to verdict.Yes =
    map-set stand_of (set h.objects to (object_at h from)) from None
    ∙ ap (λ xs. set xs from Unknown)
    (map-set stand_of h.objects to (object_at h from) ∙ ap (λ s. set (map stand_of h.objects) to s) (sym (get_or-map_default stand_of h.objects from None)))
stands_by h from to verdict.No = refl
stands_by h from to verdict.Later = refl
stands_by h from to verdict.DontNeed = map-set stand_of h.objects from None
stands_by h from to verdict.DontKnow = refl

pub stands_next : (old new : HeapView) (from to : ℕ) → new.heap ≡ heap_after old.heap from to (says old.heap true from) → stands_of new ≡ stands_after (stands_of old) from to
stands_next old new from to e =
    ap (λ (h : HeapState). map stand_of h.objects) (e ∙ ap (heap_after old.heap from to) (says_is old from)) ∙ stands_by old.heap from to (verdict_at (stands_of old) from)

-- Tags

-- where no tag has the address, none holds what is there
none_from : (xs : List (Option ℕ)) (place b : ℕ) → ((i : ℕ) → get_or xs i None ≢ Some b) → tags_from place b xs ≡ []
none_from [] place b none = refl
none_from (x ∷ xs) place b none =
    ⊎_elim (λ yes. absurd (none 0 (is_the_some x b yes)))
    (λ no. cond-false (is_the x b) _ _ no ∙ none_from xs (place + 1) b (λ i. none (suc i)))
    (cases_Bool (is_the x b))

-- at an address with no object
free_tags : (h : HeapState) (b : ℕ) → IsTied h → object_at h b ≡ None → tags_at h b ≡ []
free_tags h b tied empty = none_from h.tags 0 b (λ i e. clash (object_at h b) empty (tied.held i b e))
  where
    clash : (x : Option Object) → x ≡ None → is_some x ≡ true → ⊥
    clash None e there = cc
    clash (Some o) e there = cc

-- at an address whose object no tag holds
unheld_tags : (h : HeapState) (b : ℕ) (o : Object) → IsTied h → object_at h b ≡ Some o → o.holds ≡ 0 → tags_at h b ≡ []
unheld_tags h b o tied is free = none_from h.tags 0 b (λ i e. absurd (omega (arith, leads_counts h.tags i b e, (tied.objects b o is).holds, free)))

-- Tenants

pub tenant_is : (h : HeapState) (b : ℕ) → b < length h.objects → get_or (tenants_in h) b None ≡ tenant_at h b
tenant_is h b below = get_or-map-range_with_len (tenant_at h) 0 (length h.objects) b b None below (omega arith)

pub many : (h : HeapState) → length (tenants_in h) ≡ length h.objects
many h = length-map-range_with_len (tenant_at h) 0 (length h.objects)

-- a list with the tenant of each buffer is the list of all
are_tenants : (h : HeapState) (xs : List (Option TenantState)) → length xs ≡ length h.objects → ((b : ℕ) → b < length h.objects → tenant_at h b ≡ get_or xs b None) →
    tenants_in h ≡ xs
are_tenants h xs size same = ext_get_or None (tenants_in h) xs (many h ∙ sym size) (λ b below.
    let low : b < length h.objects = omega (arith, below, many h) in tenant_is h b low ∙ same b low)

-- the tenant of a buffer with this object
abbrev tagged : ℕ → HeapState → Option Object → Option TenantState
tagged b h x = option_map (λ (o : Object). record { names = o.names; tags = tags_at h b }) x

-- after a leftover went
tenants_unneeded : (h : HeapState) (from : ℕ) → from < length h.objects → tenants_in (without_object h from) ≡ set (tenants_in h) from None
tenants_unneeded h from low =
    are_tenants (without_object h from) (set (tenants_in h) from None) (length-set (tenants_in h) from None ∙ (many h ∙ sym (length-set h.objects from None)))
    (λ b below.
    ⊎_elim
    (λ at.
    ap (λ n. tagged n (without_object h from) (get_or (set h.objects from None) n None)) at
    ∙ (ap (tagged from (without_object h from)) (get_or-set_same h.objects from None None low)
    ∙ (sym (get_or-set_same (tenants_in h) from None None (omega (arith, low, many h))) ∙ ap (λ n. get_or (set (tenants_in h) from None) n None) (sym at))))
    (λ off.
    ap (tagged b h) (get_or-set_other h.objects from b None None off)
    ∙ (sym (tenant_is h b (omega (arith, below, length-set h.objects from None))) ∙ sym (get_or-set_other (tenants_in h) from b None None off)))
    (cases_eq b from))

-- after an object moved
module _ (h : HeapState) (from to : ℕ) (o : Object) (here : object_at h from ≡ Some o) (empty : object_at h to ≡ None) (low : to < length h.objects) (tied : IsTied h) (free : o.holds ≡ 0) where
  abbrev after : List (Option TenantState)
  after = set (set (tenants_in h) to (get_or (tenants_in h) from None)) from None

  below_from : from < length h.objects
  below_from = read_within h.objects from o here

  sized : length after ≡ length (relocated h from to).objects
  sized =
      length-set (set (tenants_in h) to (get_or (tenants_in h) from None)) from None
      ∙ (length-set (tenants_in h) to (get_or (tenants_in h) from None)
      ∙ (many h ∙ (sym (length-set h.objects to (object_at h from)) ∙ sym (length-set (set h.objects to (object_at h from)) from None))))

  at_from : tenant_at (relocated h from to) from ≡ get_or after from None
  at_from =
      ap (tagged from h) (relocates.at_old h from to o here empty low)
      ∙ sym (get_or-set_same (set (tenants_in h) to (get_or (tenants_in h) from None)) from None None
      (omega (arith, below_from, many h, length-set (tenants_in h) to (get_or (tenants_in h) from None))))

  -- no tag holds what is at either
  moves_along : tagged to h (Some o) ≡ get_or (tenants_in h) from None
  moves_along =
      ap (λ (tags : List (ℕ × ℕ)). Some (record { names = o.names; tags = tags })) (free_tags h to tied empty ∙ sym (unheld_tags h from o tied here free))
      ∙ (ap (tagged from h) (sym here) ∙ sym (tenant_is h from below_from))

  at_to : tenant_at (relocated h from to) to ≡ get_or after to None
  at_to =
      ap (tagged to h) (relocates.at_new h from to o here empty low)
      ∙ (moves_along
      ∙ (sym (get_or-set_same (tenants_in h) to (get_or (tenants_in h) from None) None (omega (arith, low, many h)))
      ∙ sym (get_or-set_other (set (tenants_in h) to (get_or (tenants_in h) from None)) from to None None (relocates.apart h from to o here empty low))))

  at_other : (b : ℕ) → b ≢ from → b ≢ to → b < length h.objects → tenant_at (relocated h from to) b ≡ get_or after b None
  at_other b off far below =
      ap (tagged b h) (relocates.at_other h from to o here empty low b off far)
      ∙ (sym (tenant_is h b below)
      ∙ (sym (get_or-set_other (tenants_in h) to b (get_or (tenants_in h) from None) None far)
      ∙ sym (get_or-set_other (set (tenants_in h) to (get_or (tenants_in h) from None)) from b None None off)))

  tenants_moved : tenants_in (relocated h from to) ≡ after
  tenants_moved = are_tenants (relocated h from to) after sized (λ b below.
      ⊎_elim (λ at. subst (λ n. tenant_at (relocated h from to) n ≡ get_or after n None) (sym at) at_from)
      (λ off. ⊎_elim (λ at. subst (λ n. tenant_at (relocated h from to) n ≡ get_or after n None) (sym at) at_to)
      (λ far. at_other b off far (omega (arith, below, sized, length-set (set (tenants_in h) to (get_or (tenants_in h) from None)) from None, length-set (tenants_in h) to (get_or (tenants_in h) from None), many h)))
      (cases_eq b to))
      (cases_eq b from))

-- after the answer about what is at an address
tenants_by : (h : HeapState) (from to : ℕ) (v : Verdict) → said_of v ≡ says h true from → object_at h to ≡ None → to < length h.objects → from < length h.objects → IsTied h →
    tenants_in (heap_after h from to (said_of v)) ≡ after_verdict None v from to (tenants_in h)
tenants_by h from to verdict.Yes e empty low there tied =
    let it = yes_is (object_at h from) e in tenants_moved h from to it.o it.is empty low tied it.free
tenants_by h from to verdict.No e empty low there tied = refl
tenants_by h from to verdict.Later e empty low there tied = refl
tenants_by h from to verdict.DontNeed e empty low there tied = tenants_unneeded h from there
tenants_by h from to verdict.DontKnow e empty low there tied = refl

pub tenants_next : (old new : HeapView) (from to : ℕ) → new.heap ≡ heap_after old.heap from to (says old.heap true from) → object_at old.heap to ≡ None → to < length old.heap.objects →
    from < length old.heap.objects → IsTied old.heap → tenants_of new ≡ tenants_after (stands_of old) from to (tenants_of old)
tenants_next old new from to e empty low there tied =
    ap tenants_in (e ∙ ap (heap_after old.heap from to) (says_is old from))
    ∙ tenants_by old.heap from to (verdict_at (stands_of old) from) (sym (says_is old from)) empty low there tied

-- What the heap stands for

pub meaning_next : (old new : HeapView) (from to : ℕ) (said : Said) → ((m : RecordMap) (addresses : List ℕ) → StandsFor m addresses old.heap → StandsFor m (addresses_after addresses from to said) new.heap) →
    IsFrame old new → (m : MeaningState) → HasMeaning old m → HasMeaning new m
meaning_next old new from to said stands frame m has = record {
  map = by m.map has.map;
  holds = frame.holds ∙ has.holds;
  names = frame.names ∙ has.names;
  tags = frame.tags ∙ has.tags;
  buffers = frame.objects ∙ has.buffers;
}
  where
    by : (x : Option RecordMap) → IfSome x (λ map. (addresses : List ℕ) × StandsFor map addresses old.heap) → IfSome x (λ map. (addresses : List ℕ) × StandsFor map addresses new.heap)
    by None had = tt
    by (Some map) had = (addresses_after had.0 from to said, stands map had.0 had.1)
