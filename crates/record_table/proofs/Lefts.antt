-- How many objects a heap has, and how many of them are leftovers.
use Rattle.std.proofs.Common.{◌≡◌, ℕ, ◌+◌, ◌<◌, true, false, cond, List, [], ◌∷◌, length, get_or, set, Option, None, Some, is_some, is_none, count_by, sym, ap, ◌∙◌, refl, subst, arith}
use Rattle.std.proofs.lemmas.Bool.{both_ways}
use Rattle.std.proofs.lemmas.List.{length-map, get_or-set_other, length-set}
use Rattle.kmem_model.proofs.CacheLists.{count-cons, count-map, count-set_more, count-set_less, counted, get_or-map_default}
use Rattle.kmem_model.specs.Records.{RecordMap, live_count}
use Rattle.kmem_model.specs.Heap.{Object, HeapState, StandsFor, object_at, has_record, is_leftover, leftover_count, places_of}
use Rattle.kmem_model.proofs.RecordsValid.{read_within}
use Rattle.record_table.specs.Tables.{object_count}

-- an object is a record's or a leftover
parts_count : (xs : List (Option Object)) → count_by is_some xs ≡ count_by has_record xs + count_by is_leftover xs
parts_count [] = refl
parts_count (x ∷ xs) = omega (arith, count-cons is_some x xs, count-cons has_record x xs, count-cons is_leftover x xs, parts_count xs, one x)
  where
    by_value : (v : Option (List ℕ)) → 1 ≡ cond (is_some v) 1 0 + cond (is_none v) 1 0
    by_value None = refl
    by_value (Some v) = refl

    one : (y : Option Object) → cond (is_some y) 1 0 ≡ cond (has_record y) 1 0 + cond (is_leftover y) 1 0
    one None = refl
    one (Some o) = by_value o.value

pub left_count : (m : RecordMap) (addresses : List ℕ) (h : HeapState) → StandsFor m addresses h → object_count h ≡ live_count m + leftover_count h
left_count m addresses h stands = omega (arith, parts_count h.objects, stands.paired.count)

-- by the places alone
count_places : (h : HeapState) → object_count h ≡ count_by (λ b. b) (places_of h.objects)
count_places h = sym (count-map is_some (λ b. b) h.objects)

pub same_places : (g h : HeapState) → places_of g.objects ≡ places_of h.objects → object_count g ≡ object_count h
same_places g h same = count_places g ∙ (ap (count_by (λ b. b)) same ∙ sym (count_places h))

place_is : (h : HeapState) (b : ℕ) → get_or (places_of h.objects) b false ≡ is_some (object_at h b)
place_is h b = get_or-map_default is_some h.objects b None

pub within : (h : HeapState) (b : ℕ) → is_some (object_at h b) ≡ true → b < length h.objects
within h b there = by (object_at h b) refl there
  where
    by : (x : Option Object) → object_at h b ≡ x → is_some x ≡ true → b < length h.objects
    by None is e = absurd (both_ways false refl e)
    by (Some o) is e = read_within h.objects b o is

-- one more, and one less
pub one_more : (g h : HeapState) (b : ℕ) → b < length h.objects → object_at h b ≡ None → places_of g.objects ≡ set (places_of h.objects) b true →
    object_count g ≡ object_count h + 1
one_more g h b low empty same =
    omega (
      arith,
      count_places g,
      ap (count_by (λ b. b)) same,
      count-set_more (λ b. b) (places_of h.objects) b true false (subst (λ n. b < n) (sym (length-map h.objects is_some)) low) (place_is h b ∙ ap is_some empty) refl,
      count_places h,
    )

pub one_less : (g h : HeapState) (b : ℕ) → is_some (object_at h b) ≡ true → places_of g.objects ≡ set (places_of h.objects) b false →
    object_count g + 1 ≡ object_count h
one_less g h b there same =
    omega (
      arith,
      count_places g,
      ap (count_by (λ b. b)) same,
      count-set_less (λ b. b) (places_of h.objects) b false false (subst (λ n. b < n) (sym (length-map h.objects is_some)) (within h b there)) (place_is h b ∙ there) refl,
      count_places h,
    )

-- one that has moved
pub one_moved : (g h : HeapState) (from to : ℕ) → is_some (object_at h from) ≡ true → object_at h to ≡ None → to < length h.objects →
    places_of g.objects ≡ set (set (places_of h.objects) to (get_or (places_of h.objects) from false)) from false →
    object_count g ≡ object_count h
one_moved g h from to there empty low same =
    let ps = places_of h.objects in
    let known : get_or ps from false ≡ true = place_is h from ∙ there in
    let there_low : from < length ps = subst (λ n. from < n) (sym (length-map h.objects is_some)) (within h from there) in
    let to_low : to < length ps = subst (λ n. to < n) (sym (length-map h.objects is_some)) low in
    let other : to ≡ from → ⊥ = λ e. both_ways _ (sym (ap (λ n. get_or ps n false) e) ∙ (place_is h to ∙ ap is_some empty)) known in
    let more = count-set_more (λ b. b) ps to (get_or ps from false) false to_low (place_is h to ∙ ap is_some empty) known in
    let still : get_or (set ps to (get_or ps from false)) from false ≡ true = get_or-set_other ps to from (get_or ps from false) false (λ e. other (sym e)) ∙ known in
    let less = count-set_less (λ b. b) (set ps to (get_or ps from false)) from false false
    (subst (λ n. from < n) (sym (length-set ps to (get_or ps from false))) there_low) still refl in
    omega (arith, count_places g, ap (count_by (λ b. b)) same, more, less, count_places h)

-- a leftover is counted
pub left_there : (h : HeapState) (b : ℕ) → is_leftover (object_at h b) ≡ true → 0 < leftover_count h
left_there h b is = by (object_at h b) refl is
  where
    by : (x : Option Object) → object_at h b ≡ x → is_leftover x ≡ true → 0 < leftover_count h
    by None e f = absurd (both_ways false refl f)
    by (Some o) e f = omega (arith, counted is_leftover h.objects b None (read_within h.objects b o e) is)
