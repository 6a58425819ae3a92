-- A settle of the heap and the cache is the settle of `one`.
use Rattle.std.proofs.Common.{◌≡◌, ℕ, suc, ◌+◌, ◌<◌, ◌&&◌, nat_lt, Bool, true, false, cond, List, [], ◌∷◌, length, map, get_or, set, count_by, option_map, option_and_then, Option, Some, None, is_some, is_none, ⊎_elim, sym, ◌∙◌, ap, ap₂, refl, arith}
use Rattle.std.specs.List.{range_with_len}
use Rattle.std.specs.Option.{option_map_or}
use Rattle.std.proofs.lemmas.Bool.{cases_eq, both_ways, cond-true, cond-false, cond_both, eq-eqb, ne_eqb}
use Rattle.std.proofs.lemmas.List.{ext_get_or, length-map, map-set}
use Rattle.std.proofs.lemmas.List.FromFn.{length-map-range_with_len, get_or-map-range_with_len}
use Rattle.kmem_model.proofs.CacheLists.{count-cons, reads_within, count-map, get_or-map_default}
use Rattle.kmem_model.proofs.Heaps.{leftover_is, live_object, found_lives}
use Rattle.kmem_model.specs.CacheState.{CacheState, is_out, has_pending}
use Rattle.kmem_model.specs.CacheOrder.{is_the}
use Rattle.kmem_model.specs.declared.cache_entry.Said.{Said}
use Rattle.kmem_model.specs.declared.cache_entry.Said.TheVariants.{Yes, No, Later, DontNeed, DontKnow}
use Rattle.kmem_model.specs.Records.{Record, RecordMap, record_at, held_at, is_live, tag_count, IsValid}
use Rattle.kmem_model.specs.Heap.{Object, HeapState, object_at, record_of, is_leftover, address_in, IsPaired, StandsFor}
use Rattle.kmem_model.specs.Says.{answer_about, says, heap_after, stage_in, AreInBuffers}
use Rattle.kmem_model.specs.Settle.{Course, said_at, says_after}
use Rattle.kmem_model.specs.SettleWhole.{IsWhole, IsWholeStage, is_known}
use Rattle.kmem_model.specs.SettleMeasure.{settled}
use Rattle.kmem_model.specs.One.{OneState, buffers_of, id_at}
use Rattle.kmem_model.specs.OneRun.{is_fixed, answer_by, answer_at, stage_of, addresses_moved, OneRun, run_after, settled_run}
use Rattle.kmem_model.specs.OneStands.{OneStands}

-- The right answers by the map

-- tests that agree at each element count the same
count_agree : {X : Type 0} (p q : X → Bool) (d : X) (xs : List X) → ((i : ℕ) → p (get_or xs i d) ≡ q (get_or xs i d)) → count_by p xs ≡ count_by q xs
count_agree p q d [] same = refl
count_agree p q d (x ∷ xs) same =
    count-cons p x xs ∙ (ap₂ {A = ℕ} {B = ℕ} (λ m n. m + n) (ap {B = ℕ} (λ b. cond b 1 0) (same 0)) (count_agree p q d xs (λ i. same (suc i))) ∙ sym (count-cons q x xs))

-- the tags with the address of a record are those that hold it
holds_are : (m : RecordMap) (addresses : List ℕ) (h : HeapState) (id : ℕ) → IsValid m → IsPaired m addresses h → is_live m id ≡ true → count_by (λ a. is_the a (address_in addresses id)) h.tags ≡ tag_count m id
holds_are m addresses h id v s live =
    ap (count_by (λ a. is_the a (address_in addresses id))) s.tags
    ∙ (count-map (option_map (address_in addresses)) (λ a. is_the a (address_in addresses id)) m.tags
    ∙ count_agree (λ x. is_the (option_map (address_in addresses) x) (address_in addresses id)) (λ x. is_the x id) None m.tags (λ place. by_held place (held_at m place) refl))
  where
    by_held : (place : ℕ) (x : Option ℕ) → held_at m place ≡ x → is_the (option_map (address_in addresses) x) (address_in addresses id) ≡ is_the x id
    by_held place None e = refl
    by_held place (Some j) e =
        ⊎_elim
        (λ same. eq-eqb (address_in addresses j) (address_in addresses id) (ap (address_in addresses) same) ∙ sym (eq-eqb j id same))
        (λ other. ne_eqb (address_in addresses j) (address_in addresses id) (λ same. other (s.apart j id (v.held place j e) live same)) ∙ sym (ne_eqb j id other))
        (cases_eq j id)

-- an object's flag is that of its record
fixed_is : (m : RecordMap) (id : ℕ) (o : Object) → is_some o.value ≡ true → record_of o ≡ record_at m id → o.fixed ≡ is_fixed m id
fixed_is m id o there e = by_value o.value refl there ∙ ap (λ x. option_map_or (λ (r : Record). r.fixed) x false) e
  where
    by_value : (v : Option (List ℕ)) → o.value ≡ v → is_some v ≡ true → o.fixed ≡ option_map_or (λ (r : Record). r.fixed) (record_of o) false
    by_value None e there = absurd (both_ways false refl there)
    by_value (Some v) e there = ap (λ (x : Option (List ℕ)). option_map_or (λ (r : Record). r.fixed) (record_of (record o { value = x })) false) (sym e)

pub answer_is : (s : OneState) (h : HeapState) (b : ℕ) → OneStands s h → answer_about (object_at h b) ≡ answer_at s b
answer_is s h b stands = by_object (object_at h b) refl
  where
    by_id : (o : Object) → object_at h b ≡ Some o → (x : Option ℕ) → id_at s.map s.addresses b ≡ x → answer_about (Some o) ≡ answer_by s.map x
    by_id o e None is =
        let none : is_none o.value ≡ true = ap is_leftover (sym e) ∙ (leftover_is s h b stands ∙ (ap (λ out. out && is_none (id_at s.map s.addresses b)) (sym (stands.places b) ∙ ap is_some e) ∙ ap is_none is)) in
        cond-true (is_none o.value) DontNeed _ none
    by_id o e (Some id) is =
        let at = found_lives s.map s.addresses b id is in
        let here : object_at h (address_in s.addresses id) ≡ Some o = ap (object_at h) at.1 ∙ e in
        let there : is_some o.value ≡ true = live_object s.map s.addresses h id (Some o) stands.stands.paired at.0 here in
        let same : record_of o ≡ record_at s.map id = sym (ap (option_and_then record_of) here) ∙ stands.stands.paired.records id at.0 in
        let fixed : o.fixed ≡ is_fixed s.map id = fixed_is s.map id o there same in
        let holds : o.holds ≡ tag_count s.map id = (stands.stands.paired.tied.objects (address_in s.addresses id) o here).holds ∙ holds_are s.map s.addresses h id stands.stands.valid stands.stands.paired at.0 in
        cond-false (is_none o.value) DontNeed _ (some_not_none o.value there)
        ∙ (ap (λ f. cond f No (cond (nat_lt 0 o.holds) Later Yes)) fixed ∙ ap (λ n. cond (is_fixed s.map id) No (cond (nat_lt 0 n) Later Yes)) holds)
      where
        some_not_none : (x : Option (List ℕ)) → is_some x ≡ true → is_none x ≡ false
        some_not_none (Some x) e = refl
        some_not_none None e = absurd (both_ways false refl e)

    by_object : (x : Option Object) → object_at h b ≡ x → answer_about x ≡ answer_at s b
    by_object None e = sym (cond-false (is_out s.cache b) _ DontKnow (sym (stands.places b) ∙ ap is_some e))
    by_object (Some o) e = by_id o e (id_at s.map s.addresses b) refl ∙ sym (cond-true (is_out s.cache b) (answer_by s.map (id_at s.map s.addresses b)) DontKnow (sym (stands.places b) ∙ ap is_some e))

-- what a settle works on is the same by the heap and by the map
pub stage_is : (s : OneState) (h : HeapState) → OneStands s h → stage_in s.cache h.objects ≡ stage_of s
stage_is s h stands =
    ap (λ (given : List Said). record { cache = s.cache; says = given })
    (ext_get_or DontKnow (map answer_about h.objects) (map (answer_at s) (range_with_len 0 (buffers_of s.cache)))
    (length-map h.objects answer_about ∙ (stands.size ∙ sym (length-map-range_with_len (answer_at s) 0 (buffers_of s.cache))))
    (λ b below. get_or-map_default answer_about h.objects b None ∙ (answer_is s h b stands ∙ sym (get_or-map-range_with_len (answer_at s) 0 (buffers_of s.cache) b b DontKnow (omega (arith, below, length-map h.objects answer_about, stands.size)) (omega arith)))))

-- The stage of a heap

-- an object is known
known_is : (x : Option Object) → is_known (answer_about x) ≡ is_some x
known_is None = refl
known_is (Some o) =
    cond_both (is_none o.value) _ _ (λ said. is_known said ≡ true) (λ e. refl)
    (λ e. cond_both o.fixed _ _ (λ said. is_known said ≡ true) (λ f. refl)
    (λ f. cond_both (nat_lt 0 o.holds) _ _ (λ said. is_known said ≡ true) (λ g. refl) (λ g. refl)))

pub stage_whole : (cache : CacheState) (h : HeapState) → IsWhole cache → has_pending cache ≡ false → AreInBuffers cache h.objects → IsWholeStage (stage_in cache h.objects)
stage_whole cache h whole calm within =
    record {
      cache = whole;
      calm = calm;
      says = length-map h.objects answer_about ∙ (within.size ∙ whole.asked);
      known = λ b. ap is_known (get_or-map_default answer_about h.objects b None) ∙ (known_is (object_at h b) ∙ within.places b);
    }

-- and where it is whole, the objects lie in the buffers that are out
pub stage_within : (cache : CacheState) (h : HeapState) → IsWholeStage (stage_in cache h.objects) → AreInBuffers cache h.objects
stage_within cache h whole =
    record {
      size = sym (length-map h.objects answer_about) ∙ (whole.says ∙ sym whole.cache.asked);
      places = λ b. sym (known_is (object_at h b)) ∙ (ap is_known (sym (get_or-map_default answer_about h.objects b None)) ∙ whole.known b);
    }

-- what is known lies in the heap
pub known_within : (cache : CacheState) (h : HeapState) (b : ℕ) → is_known (said_at (stage_in cache h.objects) b) ≡ true → b < length h.objects
known_within cache h b known = omega (arith, reads_within (map answer_about h.objects) b DontKnow is_known refl known, length-map h.objects answer_about)

-- the answer about a buffer is the heap's
pub said_is : (cache : CacheState) (h : HeapState) (b : ℕ) → said_at (stage_in cache h.objects) b ≡ says h true b
said_is cache h b = get_or-map_default answer_about h.objects b None

-- the answers after a move are those of the heap after it
pub says_moved : (h : HeapState) (from to : ℕ) (said : Said) → map answer_about (heap_after h from to said).objects ≡ says_after said from to (map answer_about h.objects)
says_moved h from to Yes = map-set answer_about (set h.objects to (object_at h from)) from None ∙ ap (λ xs. set xs from DontKnow) (map-set answer_about h.objects to (object_at h from) ∙ ap (λ said. set (map answer_about h.objects) to said) (sym (get_or-map_default answer_about h.objects from None)))
says_moved h from to No = refl
says_moved h from to Later = refl
says_moved h from to DontNeed = map-set answer_about h.objects from None
says_moved h from to DontKnow = refl

-- A whole settle

-- where the settle of the heap and the cache took this course, the heap stands for what `one` keeps after it
pub settled_stands : (run : OneRun) (h new : HeapState) (course : Course) → OneStands run.state h → settled (stage_of run.state) ≡ Some course → IsWholeStage course.stage → StandsFor run.state.map (addresses_moved run.state.addresses course.moves) new → AreInBuffers course.stage.cache new.objects → (settled_run run ≡ run_after run course) × OneStands (run_after run course).state new
settled_stands run h new course stands e whole after within = (
  ap (λ x. option_map_or (run_after run) x run) e,
  record {
    whole = whole.cache;
    calm = whole.calm;
    stands = after;
    size = within.size;
    places = within.places;
  },
)
