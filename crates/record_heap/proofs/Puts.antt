-- A new record, a leftover that goes, and an object that moves: what they keep, and that the map is the next one or stays.
use Rattle.std.proofs.Common.{◌≡◌, ℕ, zero, suc, ◌+◌, ◌-◌, ◌*◌, ◌<◌, ◌≤◌, ◌^◌, Bool, true, false, List, [], ◌∷◌, ◌++◌, length, get_or, set, map, replicate, count_by, Option, Some, None, is_some, option_map, sym, ◌∙◌, ap, ap₂, refl, subst, arith, ⊎_elim}
use Rattle.std.proofs.lemmas.Bool.{both_ways, cases_lt, false_from_ne_true}
use Rattle.std.proofs.lemmas.List.{length-set, length-replicate, get_or-replicate, get_or_past}
use Rattle.kmem_text.specs.declared.command.Reply.TheVariants.{Was}
use Rattle.std.specs.Option.{option_or}
use Rattle.std.specs.Bool.{then_some}
use Rattle.kmem_model.specs.CacheOrder.{least_below}
use Rattle.kmem_model.specs.Records.{RecordMap, IsValid, no_records, id_of}
use Rattle.kmem_model.specs.RecordStep.{put_step}
use Rattle.kmem_model.specs.Heap.{least_left_in, Object, HeapState, blank, address_of, object_at, has_record, is_leftover, address_in, IsTied, IsPaired}
use Rattle.record_heap.specs.Changes.{value_in, with_object, made, first_object}
use Rattle.record_heap.specs.Kept.{IsHeapKept}
use Rattle.kmem_model.proofs.CacheLists.{count-set_more, counted}
use Rattle.kmem_model.proofs.RecordsValid.{read_within, some_within}
use Rattle.record_heap.proofs.Lists.{count_none}
use Rattle.record_heap.proofs.Tied.{IsCounted, counted_in, same_but, same_but-begun, tied_used, tied_gone, counted_empty, counted_linked}
use Rattle.record_heap.proofs.Stands.{led, no_name, stands_made, stands_without, no_record}
use Rattle.record_heap.proofs.Kept.{one_if, kept_at, whole_of, whole_first, leftover_blank}
use Rattle.record_heap.proofs.Steps.{value_same}

-- A put of a name that is there

pub was_put : (m : RecordMap) (a : List ℕ) (h : HeapState) → IsValid m → IsPaired m a h → (name b : ℕ) (value v : List ℕ) → address_of h name ≡ Some b → value_in h b ≡ Some v →
    Was v ≡ (put_step m name value (id_of m name)).reply
was_put m a h valid s name b value v leads is =
    let t = led m a h valid s name b leads in
    ap Was (value_same m a h s (id_of m name) b t v is) ∙ ap (λ x. (put_step m name value x).reply) (sym t.is)

-- A new record

module _ (h : HeapState) (p r l : ℕ) (kept : IsHeapKept h p r l) (n b : ℕ) (value : List ℕ) (below : n < length h.names) (low : b < length h.objects) (was : address_of h n ≡ None) (free : IsCounted h.names h.tags b blank) (none : has_record (object_at h b) ≡ false) where
  tied_made : IsTied (made h n b value)
  tied_made =
      tied_used h (set h.names n (Some b)) h.tags b kept.tied low (same_but-begun b h.names n was) (same_but b h.tags) (first_object n value)
      (first (counted_linked h.names h.tags b n blank free below was)) (λ e. omega (arith, e))
    where
      first : IsCounted (set h.names n (Some b)) h.tags b (record { value = None; names = [] ++ n ∷ []; holds = 0; fixed = false }) → IsCounted (set h.names n (Some b)) h.tags b (first_object n value)
      first c = record { back = c.back; once = c.once; held = c.held }

  pub made_kept : (l' : ℕ) → l' + one_if (is_leftover (object_at h b)) ≡ l → IsHeapKept (made h n b value) (p + 1) (r + 1) l'
  made_kept l' left =
      kept_at h p r l kept (set h.names n (Some b)) h.tags b low (Some (first_object n value)) (p + 1) (r + 1) l' tied_made
      (whole_of (first_object n value) (whole_first n value)) (length-set h.names n (Some b)) refl
      (omega (arith, kept.names_counted, count-set_more is_some h.names n (Some b) None below (ap is_some was) refl))
      (omega (arith, ap one_if none)) (omega (arith, left))

  pub made_stands : (m : RecordMap) (a : List ℕ) → IsValid m → IsPaired m a h → IsPaired (put_step m n value (id_of m n)).map (a ++ b ∷ []) (made h n b value)
  made_stands m a valid s =
      subst (λ (x : Option ℕ). IsPaired (put_step m n value x).map (a ++ b ∷ []) (made h n b value)) (sym (no_name m a h s n was))
      (stands_made m a h valid s n b value low none tied_made)

-- where there is no object, or a leftover
pub empty_free : (h : HeapState) (p r l : ℕ) → IsHeapKept h p r l → (b : ℕ) → object_at h b ≡ None → IsCounted h.names h.tags b blank
empty_free h p r l kept b empty = counted_empty h b kept.tied empty

pub left_free : (h : HeapState) (p r l : ℕ) → IsHeapKept h p r l → (b : ℕ) → is_leftover (object_at h b) ≡ true → IsCounted h.names h.tags b blank
left_free h p r l kept b left = counted_in h b blank (kept.tied.objects b blank (leftover_blank h p r l kept b left))

pub fewer_left : (h : HeapState) (p r l : ℕ) → IsHeapKept h p r l → (b : ℕ) → is_leftover (object_at h b) ≡ true → 1 ≤ l
fewer_left h p r l kept b left =
    omega (arith, kept.leftovers_counted, counted is_leftover h.objects b None (some_within h.objects b (there (object_at h b) left)) left)
  where
    there : (o : Option Object) → is_leftover o ≡ true → is_some o ≡ true
    there None e = e
    there (Some o) e = refl

-- where none is counted, none is the least
pub no_leftover : (h : HeapState) (p r l : ℕ) → IsHeapKept h p r l → l ≡ 0 → least_left_in h ≡ None
no_leftover h p r l kept nothing_left =
    least_none (length h.objects) (λ b. is_leftover (object_at h b))
    (λ b. false_from_ne_true (is_leftover (object_at h b)) (λ left. omega (arith, nothing_left, fewer_left h p r l kept b left)))
  where
    least_none : (n : ℕ) (test : ℕ → Bool) → ((k : ℕ) → test k ≡ false) → least_below n test ≡ None
    least_none zero test fails = refl
    least_none (suc n) test fails = ap₂ (λ (x : Option ℕ) (t : Bool). option_or x (then_some t n)) (least_none n test fails) (fails n)

-- A leftover goes

pub without_kept : (h : HeapState) (p r l : ℕ) → IsHeapKept h p r l → (b : ℕ) → is_leftover (object_at h b) ≡ true → IsHeapKept (with_object h b None) p r (l - 1)
without_kept h p r l kept b left =
    let is = leftover_blank h p r l kept b left in
    let low = read_within h.objects b blank is in
    kept_at h p r l kept h.names h.tags b low None p r (l - 1)
    (tied_gone h h.names h.tags b kept.tied low (same_but b h.names) (same_but b h.tags) blank (left_free h p r l kept b left) refl) (λ q e. absurd (never q e)) refl refl kept.names_counted
    (ap (λ t. r + one_if t) (no_record (object_at h b) left)) (omega (arith, fewer_left h p r l kept b left, ap one_if left))
  where
    never : (q : Object) → ◌≡◌ {A = Option Object} None (Some q) → ⊥
    never q e = cc

pub without_stands : (h : HeapState) (p r l : ℕ) → IsHeapKept h p r l → (b : ℕ) → is_leftover (object_at h b) ≡ true → (m : RecordMap) (a : List ℕ) → IsPaired m a h → IsPaired m a (with_object h b None)
without_stands h p r l kept b left m a s = stands_without m a h s b (no_record (object_at h b) left) (without_kept h p r l kept b left).tied

-- The heap of no record

none_at : {X : Type 0} (k n : ℕ) → get_or {A = Option X} (replicate k None) n None ≡ None
none_at {X = X} k n =
    ⊎_elim (λ below. get_or-replicate k n None None below) (λ past. get_or_past (replicate k None) n None (omega (arith, past, length-replicate {A = Option X} k None))) (cases_lt n k)

map_none : (f : ℕ → ℕ) (k : ℕ) → replicate k None ≡ map (option_map f) (replicate k None)
map_none f zero = refl
map_none f (suc k) = ap (λ (xs : List (Option ℕ)). None ∷ xs) (map_none f k)

count_zero : {X : Type 0} (test : Option X → Bool) (k : ℕ) → test None ≡ false → count_by test (replicate k None) ≡ 0
count_zero test k fails = count_none test (replicate k None) (λ i. ap test (none_at k i) ∙ fails)

-- a heap of this many names, tags and places, with nothing in them
abbrev pub nothing : ℕ → ℕ → ℕ → HeapState
nothing names tags objects = record { names = replicate names None; tags = replicate tags None; objects = replicate objects None }

tied_nothing : (names tags objects : ℕ) → IsTied (nothing names tags objects)
tied_nothing names tags objects =
    record {
      named = λ name c e. absurd (number c (sym (none_at names name) ∙ e));
      held = λ place c e. absurd (number c (sym (none_at tags place) ∙ e));
      objects = λ c o e. absurd (object o (sym (none_at objects c) ∙ e));
    }
  where
    number : (c : ℕ) → ◌≡◌ {A = Option ℕ} None (Some c) → ⊥
    number c e = cc

    object : (o : Object) → ◌≡◌ {A = Option Object} None (Some o) → ⊥
    object o e = cc

pub nothing_stands : (names workers objects : ℕ) → IsPaired (no_records names workers) [] (nothing names (8 * workers) objects)
nothing_stands names workers objects =
    record {
      size = refl;
      names = map_none (address_in []) names;
      tags = map_none (address_in []) (8 * workers);
      records = λ id lives. absurd (both_ways false refl lives);
      apart = λ i j lives other same. absurd (both_ways false refl lives);
      count = count_zero has_record objects refl;
      tied = tied_nothing names (8 * workers) objects;
    }

pub nothing_kept : (names workers objects : ℕ) → names < 2 ^ 32 → workers ≤ 16 → objects ≤ 65536 → IsHeapKept (nothing names (8 * workers) objects) 0 0 0
nothing_kept names workers objects few_names few_workers few_objects =
    record {
      tied = tied_nothing names (8 * workers) objects;
      whole = λ b o e. absurd (cc (sym e ∙ none_at objects b));
      names = omega (arith, length-replicate {A = Option ℕ} names None);
      tags = omega (arith, length-replicate {A = Option ℕ} (8 * workers) None);
      objects = omega (arith, length-replicate {A = Option Object} objects None);
      names_counted = sym (count_zero is_some names refl);
      records_counted = sym (count_zero has_record objects refl);
      leftovers_counted = sym (count_zero is_leftover objects refl);
    }
