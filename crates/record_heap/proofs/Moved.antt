-- What a record heap keeps where an object moves with all its names.
use Rattle.std.proofs.Common.{◌≡◌, ◌≢◌, ℕ, ◌+◌, ◌<◌, ◌==◌, Bool, true, false, cond, List, [], ◌∷◌, length, get_or, set, map, count_by, Option, Some, None, is_some, is_none, sym, ◌∙◌, ap, ap₂, refl, arith, ⊎_elim}
use Rattle.std.specs.List.{list_any}
use Rattle.std.proofs.lemmas.Bool.{both_ways, cases_eq}
use Rattle.std.proofs.lemmas.List.{get_or-set_other, length-set, length-map, ext_get_or}
use Rattle.kmem_model.specs.CacheOrder.{is_the}
use Rattle.kmem_model.specs.Heap.{Object, HeapState, object_at, has_record, is_leftover}
use Rattle.kmem_model.specs.Says.{moved_name, relocated}
use Rattle.kmem_model.proofs.CacheLists.{count-set_same, count-set_less, count-set_more, count-cons}
use Rattle.kmem_model.proofs.RecordsValid.{is_the_some, read_within}
use Rattle.kmem_model.proofs.Relocates as relocates
use Rattle.kmem_model.proofs.Relocates.{read_moved}
use Rattle.record_heap.specs.Kept.{IsHeapKept}

-- where each of these names was made to lead to the new place, and they are the names that led to the old one
pub renamed_is : (names renamed : List (Option ℕ)) (moved : List ℕ) (old new : ℕ) → length renamed ≡ length names →
    ((name : ℕ) → get_or renamed name None ≡ cond (list_any (λ other. other == name) moved) (Some new) (get_or names name None)) →
    ((name : ℕ) → list_any (λ other. other == name) moved ≡ is_the (get_or names name None) old) → renamed ≡ map (moved_name old new) names
renamed_is names renamed moved old new size made are =
    ext_get_or None renamed (map (moved_name old new) names) (size ∙ sym (length-map names (moved_name old new)))
    (λ i below. made i ∙ (ap (λ t. cond t (Some new) (get_or names i None)) (are i) ∙ sym (read_moved old new names i)))

count_map : {X : Type 0} (f : X → X) (test : X → Bool) (xs : List X) → ((x : X) → test (f x) ≡ test x) → count_by test (map f xs) ≡ count_by test xs
count_map f test [] same = refl
count_map f test (x ∷ xs) same =
    count-cons test (f x) (map f xs) ∙ (ap₂ (λ (b : Bool) (n : ℕ). cond b 1 0 + n) (same x) (count_map f test xs same) ∙ sym (count-cons test x xs))

some_moved : (old new : ℕ) (o : Option ℕ) → is_some (moved_name old new o) ≡ is_some o
some_moved old new o = by (is_the o old) refl
  where
    by : (t : Bool) → is_the o old ≡ t → is_some (moved_name old new o) ≡ is_some o
    by true e = ap (λ t. is_some (cond t (Some new) o)) e ∙ sym (ap is_some (is_the_some o old e))
    by false e = ap (λ t. is_some (cond t (Some new) o)) e

module _ (h : HeapState) (old new : ℕ) (o : Object) (here : object_at h old ≡ Some o) (empty : object_at h new ≡ None) (low : new < length h.objects) where
  -- the object at each address
  apart : new ≢ old
  apart = relocates.apart h old new o here empty low

  at_new : object_at (relocated h old new) new ≡ Some o
  at_new = relocates.at_new h old new o here empty low

  at_old : object_at (relocated h old new) old ≡ None
  at_old = relocates.at_old h old new o here empty low

  at_other : (c : ℕ) → c ≢ old → c ≢ new → object_at (relocated h old new) c ≡ object_at h c
  at_other = relocates.at_other h old new o here empty low

  none_is : (x : Object) → ◌≡◌ {A = Option Object} None (Some x) → ⊥
  none_is x e = cc

  -- what is kept
  pub moved_kept : (p r l : ℕ) → IsHeapKept h p r l → o.holds ≡ 0 → length o.names + o.holds ≢ 0 → has_record (object_at h old) ≡ true → IsHeapKept (relocated h old new) p r l
  moved_kept p r l kept free used lives =
      let there : is_leftover (object_at h old) ≡ false = no_leftover (object_at h old) lives in
      let low_old : old < length (set h.objects new (object_at h old)) = omega (arith, length-set h.objects new (object_at h old), read_within h.objects old o here) in
      let kept_old : get_or (set h.objects new (object_at h old)) old None ≡ object_at h old = get_or-set_other h.objects new old (object_at h old) None (λ e. apart (sym e)) in
      record {
        tied = relocates.tied_moved h old new o here empty low kept.tied free used;
        whole = λ c q is_at.
            ⊎_elim
            (λ at.
            kept.whole old q (here ∙ (sym at_new ∙ (ap (λ n. get_or (set (set h.objects new (object_at h old)) old None) n None) (sym at) ∙ is_at))))
            (λ off_new.
            ⊎_elim
            (λ at. absurd (none_is q (sym at_old ∙ (ap (λ n. get_or (set (set h.objects new (object_at h old)) old None) n None) (sym at) ∙ is_at))))
            (λ far. kept.whole c q (sym (at_other c far off_new) ∙ is_at)) (cases_eq c old))
            (cases_eq c new);
        names = omega (arith, kept.names, length-map h.names (moved_name old new));
        tags = kept.tags;
        objects =
            omega (arith, kept.objects, length-set h.objects new (object_at h old), length-set (set h.objects new (object_at h old)) old None);
        names_counted = kept.names_counted ∙ sym (count_map (moved_name old new) is_some h.names (some_moved old new));
        records_counted =
            omega (
              arith,
              kept.records_counted,
              count-set_more has_record h.objects new (object_at h old) None low (ap has_record empty) lives,
              count-set_less has_record (set h.objects new (object_at h old)) old None None low_old (ap has_record kept_old ∙ lives) refl,
            );
        leftovers_counted =
            kept.leftovers_counted
            ∙ (sym (count-set_same is_leftover h.objects new (object_at h old) None (there ∙ sym (ap is_leftover empty)))
            ∙ sym (count-set_same is_leftover (set h.objects new (object_at h old)) old None None (sym (ap is_leftover kept_old ∙ there))));
      }
    where
      no_leftover : (x : Option Object) → has_record x ≡ true → is_leftover x ≡ false
      no_leftover None e = refl
      no_leftover (Some q) e = by q.value e
        where
          by : (v : Option (List ℕ)) → is_some v ≡ true → is_none v ≡ false
          by None h = absurd (both_ways false refl h)
          by (Some x) h = refl
