-- What a record heap keeps where one object changes.
use Rattle.std.proofs.Common.{◌≡◌, ◌≢◌, ℕ, ◌+◌, ◌<◌, ◌≤◌, ◌==◌, Bool, true, false, not, cond, List, [], ◌∷◌, length, get_or, set, count_by, Option, Some, None, is_some, is_none, sym, ◌∙◌, ap, refl, subst, arith, ⊎_elim}
use Rattle.std.specs.List.{list_any}
use Rattle.std.proofs.lemmas.Bool.{both_ways, cases_eq, or_parts, eq-eqb, ne_eqb}
use Rattle.std.proofs.lemmas.List.{get_or-set_same, get_or-set_other, length-set}
use Rattle.std.proofs.lemmas.List.Sums.{sum_by_push}
use Rattle.kmem_model.specs.Heap.{Object, HeapState, blank, address_of, hold_at, object_at, has_record, is_leftover, IsTied}
use Rattle.record_heap.specs.Objects.{with_value, with_fixed, with_back, without_back, held_more, held_less}
use Rattle.record_heap.specs.Changes.{first_object}
use Rattle.record_heap.specs.Kept.{IsObjectKept, IsHeapKept}
use Rattle.kmem_model.proofs.CacheLists.{count-set, count-cons}
use Rattle.record_heap.proofs.Lists.{count-filter-le}
use Rattle.record_heap.proofs.Tied.{put_at, counted_in, named_used, held_used}

-- whether it is counted, as a number
abbrev pub one_if : Bool → ℕ
one_if b = cond b 1 0

module _ (h : HeapState) (present records leftovers : ℕ) (kept : IsHeapKept h present records leftovers) (names tags : List (Option ℕ)) (b : ℕ) (low : b < length h.objects) where
  pub kept_at : (o : Option Object) (present' records' leftovers' : ℕ) → IsTied (put_at h names tags b o) → ((p : Object) → o ≡ Some p → IsObjectKept p) →
      length names ≡ length h.names → length tags ≡ length h.tags → present' ≡ count_by is_some names →
      records' + one_if (has_record (object_at h b)) ≡ records + one_if (has_record o) → leftovers' + one_if (is_leftover (object_at h b)) ≡ leftovers + one_if (is_leftover o) →
      IsHeapKept (put_at h names tags b o) present' records' leftovers'
  kept_at o present' records' leftovers' tied whole same_names same_tags names_are records_are leftovers_are =
      record {
        tied = tied;
        whole = λ c p is.
            ⊎_elim
            (λ same.
            whole p (sym (get_or-set_same h.objects b o None low) ∙ (ap (λ n. get_or (set h.objects b o) n None) (sym same) ∙ is)))
            (λ apart. kept.whole c p (sym (get_or-set_other h.objects b c o None apart) ∙ is)) (cases_eq c b);
        names = omega (arith, same_names, kept.names);
        tags = omega (arith, same_tags, kept.tags);
        objects = omega (arith, kept.objects, length-set h.objects b o);
        names_counted = names_are;
        records_counted = omega (arith, records_are, kept.records_counted, count-set has_record h.objects b o None low);
        leftovers_counted = omega (arith, leftovers_are, kept.leftovers_counted, count-set is_leftover h.objects b o None low);
      }

-- Objects that are whole

pub some_is : (x y : Object) → ◌≡◌ {A = Option Object} (Some x) (Some y) → x ≡ y
some_is x y e = cc

pub whole_of : (o : Object) → IsObjectKept o → (p : Object) → ◌≡◌ {A = Option Object} (Some o) (Some p) → IsObjectKept p
whole_of o whole p e = subst IsObjectKept (some_is o p e) whole

pub whole_blank : IsObjectKept blank
whole_blank = record { once = λ name. omega arith; valued = λ used. absurd (used refl) }

pub whole_value : (o : Object) (value : List ℕ) → IsObjectKept o → IsObjectKept (with_value value o)
whole_value o value w = record { once = w.once; valued = λ used. refl }

pub whole_fixed : (o : Object) (fixed : Bool) → IsObjectKept o → IsObjectKept (with_fixed fixed o)
whole_fixed o fixed w = record { once = w.once; valued = w.valued }

pub whole_held : (o : Object) → is_some o.value ≡ true → IsObjectKept o → IsObjectKept (held_more o)
whole_held o valued w = record { once = w.once; valued = λ used. valued }

pub whole_released : (o : Object) → is_some o.value ≡ true → IsObjectKept o → IsObjectKept (held_less o)
whole_released o valued w = record { once = w.once; valued = λ used. valued }

pub whole_without : (o : Object) (name : ℕ) → is_some o.value ≡ true → IsObjectKept o → IsObjectKept (without_back name o)
whole_without o name valued w =
    record {
      once = λ other. omega (arith, w.once other, count-filter-le (λ n. n == other) (λ n. not (n == name)) o.names);
      valued = λ used. valued;
    }

-- a name that isn't there yet
pub whole_back : (o : Object) (name : ℕ) → is_some o.value ≡ true → list_any (λ n. n == name) o.names ≡ false → IsObjectKept o → IsObjectKept (with_back name o)
whole_back o name valued new w =
    record {
      once = λ other.
          ⊎_elim
          (λ same.
          omega (
            arith,
            sum_by_push (λ n. cond (n == other) 1 0) o.names name,
            ap {B = ℕ} (λ t. cond t 1 0) (eq-eqb name other (sym same)),
            subst (λ n. count_by (λ k. k == n) o.names ≡ 0) (sym same) (none_counted o.names new),
          ))
          (λ apart.
          omega (
            arith,
            w.once other,
            sum_by_push (λ n. cond (n == other) 1 0) o.names name,
            ap {B = ℕ} (λ t. cond t 1 0) (ne_eqb name other (λ e. apart (sym e))),
          ))
          (cases_eq other name);
      valued = λ used. valued;
    }
  where
    none_counted : (xs : List ℕ) → list_any (λ n. n == name) xs ≡ false → count_by (λ n. n == name) xs ≡ 0
    none_counted [] e = refl
    none_counted (x ∷ xs) e =
        omega (
          arith,
          count-cons (λ n. n == name) x xs,
          ap {B = ℕ} (λ t. cond t 1 0) (or_parts (x == name) (list_any (λ n. n == name) xs) e).0,
          none_counted xs (or_parts (x == name) (list_any (λ n. n == name) xs) e).1,
        )

pub whole_first : (name : ℕ) (value : List ℕ) → IsObjectKept (first_object name value)
whole_first name value =
    record {
      once = λ other. count_one (name == other) (count-cons (λ n. n == other) name []);
      valued = λ used. refl;
    }
  where
    count_one : {n : ℕ} → (t : Bool) → n ≡ cond t 1 0 + 0 → n ≤ 1
    count_one true e = omega (arith, e)
    count_one false e = omega (arith, e)

-- what something leads to has a value
pub named_valued : (h : HeapState) (present records leftovers : ℕ) → IsHeapKept h present records leftovers → (name b : ℕ) (o : Object) → address_of h name ≡ Some b → object_at h b ≡ Some o →
    (length o.names + o.holds ≢ 0) × (is_some o.value ≡ true)
named_valued h present records leftovers kept name b o leads is =
    let used = named_used h.names h.tags b o name (counted_in h b o (kept.tied.objects b o is)) leads in
    (used, (kept.whole b o is).valued used)

pub held_valued : (h : HeapState) (present records leftovers : ℕ) → IsHeapKept h present records leftovers → (place b : ℕ) (o : Object) → hold_at h place ≡ Some b → object_at h b ≡ Some o →
    (0 < o.holds) × (is_some o.value ≡ true)
held_valued h present records leftovers kept place b o leads is =
    let held = held_used h.names h.tags b o place (counted_in h b o (kept.tied.objects b o is)) leads in
    (held, (kept.whole b o is).valued (λ none. omega (arith, none, held)))

-- an object of no record is blank
pub leftover_blank : (h : HeapState) (present records leftovers : ℕ) → IsHeapKept h present records leftovers → (b : ℕ) → is_leftover (object_at h b) ≡ true → object_at h b ≡ Some blank
leftover_blank h present records leftovers kept b left = by (object_at h b) refl left
  where
    by : (x : Option Object) → object_at h b ≡ x → is_leftover x ≡ true → object_at h b ≡ Some blank
    by None is e = absurd (both_ways false refl e)
    by (Some o) is e =
        ⊎_elim (λ none. is ∙ ap Some ((kept.tied.objects b o is).blank none))
        (λ used. absurd (both_ways (is_some o.value) (no_value o.value e) ((kept.whole b o is).valued used))) (cases_eq (length o.names + o.holds) 0)
      where
        no_value : (v : Option (List ℕ)) → is_none v ≡ true → is_some v ≡ false
        no_value None n = refl
        no_value (Some v) n = absurd (both_ways false refl n)
