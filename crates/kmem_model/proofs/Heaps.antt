-- What lies where in a heap that stands for a record map.
use Rattle.std.proofs.Common.{◌≡◌, ◌≢◌, ℕ, zero, suc, ◌+◌, ◌*◌, ◌/◌, ◌%◌, ◌<◌, ◌≤◌, ◌==◌, ◌&&◌, Bool, true, false, cond, List, [], ◌∷◌, length, get_or, count_by, option_map, option_and_then, Option, Some, None, is_some, is_none, ⊎_elim, sym, ◌∙◌, ap, ap₂, refl, subst, arith}
use Rattle.std.specs.Bool.{then_some}
use Rattle.std.specs.Option.{option_or}
use Rattle.std.proofs.lemmas.Bool.{cases_lt, cases_Bool, both_ways, and_parts, and_from, cases_eq, ne_eqb, eqb-true, eq-eqb}
use Rattle.std.proofs.lemmas.List.Sums.{count_by-le-length, AllPass-from_list_all, list_all-from_AllPass}
use Rattle.std.proofs.lemmas.Nat.{div_below, mod_below, div-mul-add, mod-mul-add, mul-add-lt}
use Rattle.std.proofs.lemmas.List.{get_or_default}
use Rattle.kmem_model.proofs.CacheLists.{count-cons, count_all, get_or-map_default}
use Rattle.kmem_model.proofs.CacheSearch.{fails_from_none, least_from_some, none_from_fails, is_none_says}
use Rattle.kmem_model.proofs.RecordsValid.{is_the_some, live_within}
use Rattle.kmem_model.specs.CacheState.{CacheState, SlabState, no_slab, slab_at, used, is_out}
use Rattle.kmem_model.specs.CacheOrder.{least_below, is_the}
use Rattle.kmem_model.specs.CacheEnter.{is_full}
use Rattle.kmem_model.specs.Records.{RecordMap, is_live, id_of, held_at, live_count, IsValid}
use Rattle.kmem_model.specs.Heap.{least_left_in, Object, HeapState, object_at, address_of, hold_at, record_of, has_record, is_leftover, address_in, IsTiedObject, IsPaired}
use Rattle.kmem_model.specs.SettleWhole.{IsWhole, IsWholeSlab}
use Rattle.kmem_model.specs.One.{OneState, buffers_of, id_at, least_leftover, has_no_room}
use Rattle.kmem_model.specs.OneStands.{OneStands}

-- Counts and searches

-- where one element fails, fewer pass than there are
pub count_short : {X : Type 0} (p : X → Bool) (xs : List X) (i : ℕ) (d : X) → i < length xs → p (get_or xs i d) ≡ false → count_by p xs < length xs
count_short p [] i d below fails = absurd (omega arith)
count_short p (x ∷ xs) zero d below fails =
    let head : ◌≡◌ {A = ℕ} (cond (p x) 1 0) 0 = ap {B = ℕ} (λ b. cond b 1 0) fails in
    omega (arith, head, count-cons p x xs, count_by-le-length p xs)
count_short p (x ∷ xs) (suc i) d below fails = omega (arith, count_short p xs i d (omega arith) fails, count-cons p x xs, at_most (p x))
  where
    at_most : (b : Bool) → cond b 1 0 ≤ 1
    at_most true = omega arith
    at_most false = omega arith

-- where all count, each passes
pub passes_all : {X : Type 0} (p : X → Bool) (xs : List X) (i : ℕ) (d : X) → i < length xs → count_by p xs ≡ length xs → p (get_or xs i d) ≡ true
passes_all p xs i d below all = ⊎_elim (λ yes. yes) (λ no. absurd (omega (arith, all, count_short p xs i d below no))) (cases_Bool (p (get_or xs i d)))

-- two tests that agree find the same
pub least_agree : (n : ℕ) (p q : ℕ → Bool) → ((b : ℕ) → p b ≡ q b) → least_below n p ≡ least_below n q
least_agree zero p q same = refl
least_agree (suc n) p q same = ap₂ (λ o b. option_or o (then_some b n)) (least_agree n p q same) (same n)

-- what is counted stands somewhere
pub leads_somewhere : (xs : List (Option ℕ)) (id : ℕ) → 0 < count_by (λ x. is_the x id) xs → (i : ℕ) × (get_or xs i None ≡ Some id)
leads_somewhere [] id some = absurd (omega arith)
leads_somewhere (x ∷ xs) id some =
    ⊎_elim
    (λ yes. (0, is_the_some x id yes))
    (λ no.
    let rest = leads_somewhere xs id (omega (arith, ap {B = ℕ} (λ b. cond b 1 0) no, count-cons (λ y. is_the y id) x xs)) in
    (suc rest.0, rest.1))
    (cases_Bool (is_the x id))

-- The record at an address

-- a place of the map that leads to this address leads to an id with it
at_address : (addresses : List ℕ) (x : Option ℕ) (b : ℕ) → option_map (address_in addresses) x ≡ Some b → (id : ℕ) × (x ≡ Some id) × (address_in addresses id ≡ b)
at_address addresses None b e = absurd (cc)
at_address addresses (Some id) b e = (id, refl, cc)

-- the id that lives at an address
pub record LivesAt (m : RecordMap) (addresses : List ℕ) (b : ℕ) : Type 0 where
  pub id : ℕ
  pub live : is_live m id ≡ true
  pub address : address_in addresses id ≡ b
  pub within : id < length addresses

pub name_lives : (m : RecordMap) (addresses : List ℕ) (h : HeapState) (name b : ℕ) → IsValid m → IsPaired m addresses h → address_of h name ≡ Some b → LivesAt m addresses b
name_lives m addresses h name b v s e =
    let at = at_address addresses (id_of m name) b (sym (ap (λ xs. get_or xs name None) s.names ∙ get_or-map_default (option_map (address_in addresses)) m.names name None) ∙ e) in
    let live = v.named name at.0 at.1 in
    record { id = at.0; live = live; address = at.2; within = omega (arith, s.size, live_within m at.0 live) }

pub tag_lives : (m : RecordMap) (addresses : List ℕ) (h : HeapState) (place b : ℕ) → IsValid m → IsPaired m addresses h → hold_at h place ≡ Some b → LivesAt m addresses b
tag_lives m addresses h place b v s e =
    let at = at_address addresses (held_at m place) b (sym (ap (λ xs. get_or xs place None) s.tags ∙ get_or-map_default (option_map (address_in addresses)) m.tags place None) ∙ e) in
    let live = v.held place at.0 at.1 in
    record { id = at.0; live = live; address = at.2; within = omega (arith, s.size, live_within m at.0 live) }

-- an object with a value has a name or a tag
pub valued_used : (h : HeapState) (b : ℕ) (o : Object) → IsTiedObject h b o → is_some o.value ≡ true → length o.names + o.holds ≢ 0
valued_used h b o tied there unused =
    both_ways (is_some o.value) (ap (λ (q : Object). is_some q.value) (tied.blank unused)) there

-- an object with a value is that of an id
pub object_lives : (m : RecordMap) (addresses : List ℕ) (h : HeapState) (b : ℕ) (o : Object) → IsValid m → IsPaired m addresses h → object_at h b ≡ Some o → is_some o.value ≡ true → LivesAt m addresses b
object_lives m addresses h b o v s e there =
    let tied = s.tied.objects b o e in
    ⊎_elim
    (λ named. let at = leads_somewhere h.names b (omega (arith, named, tied.once)) in name_lives m addresses h at.0 b v s at.1)
    (λ unnamed. let at = leads_somewhere h.tags b (omega (arith, unnamed, tied.holds, valued_used h b o tied there)) in tag_lives m addresses h at.0 b v s at.1)
    (cases_lt 0 (length o.names))

-- and the object of an id has a value
pub live_object : (m : RecordMap) (addresses : List ℕ) (h : HeapState) (id : ℕ) (x : Option Object) → IsPaired m addresses h → is_live m id ≡ true → object_at h (address_in addresses id) ≡ x → has_record x ≡ true
live_object m addresses h id x s live e = by_object x (ap is_some (sym (ap (option_and_then record_of) e) ∙ s.records id live) ∙ live)
  where
    by_value : (o : Object) (value : Option (List ℕ)) → o.value ≡ value → is_some (record_of o) ≡ true → is_some value ≡ true
    by_value o None e there = ap (λ (x : Option (List ℕ)). is_some (record_of (record o { value = x }))) (sym e) ∙ there
    by_value o (Some value) e there = refl

    by_object : (x : Option Object) → is_some (option_and_then record_of x) ≡ true → has_record x ≡ true
    by_object None there = there
    by_object (Some o) there = by_value o o.value refl there

-- no id is found at an address where none lives, and one is found where one does
pub id_found : (m : RecordMap) (addresses : List ℕ) (b : ℕ) → LivesAt m addresses b → is_none (id_at m addresses b) ≡ false
id_found m addresses b at = by_found (id_at m addresses b) refl
  where
    by_found : (x : Option ℕ) → id_at m addresses b ≡ x → is_none x ≡ false
    by_found (Some id) e = refl
    by_found None e = absurd (both_ways _ (fails_from_none (length addresses) (λ id. is_live m id && address_in addresses id == b) e at.id at.within) (and_from _ _ at.live (eq-eqb _ b at.address)))

pub found_lives : (m : RecordMap) (addresses : List ℕ) (b id : ℕ) → id_at m addresses b ≡ Some id → (is_live m id ≡ true) × (address_in addresses id ≡ b)
found_lives m addresses b id e =
    let found = least_from_some (length addresses) (λ id. is_live m id && address_in addresses id == b) id e in
    let parts = and_parts (is_live m id) (address_in addresses id == b) found.passes in
    (parts.0, eqb-true (address_in addresses id) b parts.1)

-- Leftovers

-- an object is a leftover exactly where its buffer is out and no record lives there
pub leftover_is : (s : OneState) (h : HeapState) (b : ℕ) → OneStands s h → is_leftover (object_at h b) ≡ (is_out s.cache b && is_none (id_at s.map s.addresses b))
leftover_is s h b stands = by_object (object_at h b) refl
  where
    by_id : (o : Object) → object_at h b ≡ Some o → is_some o.value ≡ false → (x : Option ℕ) → id_at s.map s.addresses b ≡ x → is_none o.value ≡ is_none x
    by_id o e none (Some id) is =
        let at = found_lives s.map s.addresses b id is in
        absurd (both_ways (is_some o.value) none (live_object s.map s.addresses h id (Some o) stands.stands.paired at.0 (ap (object_at h) at.1 ∙ e)))
    by_id o e none None is = is_none_from o.value none
      where
        is_none_from : (x : Option (List ℕ)) → is_some x ≡ false → is_none x ≡ true
        is_none_from None e = refl
        is_none_from (Some x) e = absurd (both_ways true e refl)

    by_value : (o : Object) → object_at h b ≡ Some o → (v : Bool) → is_some o.value ≡ v → is_none o.value ≡ is_none (id_at s.map s.addresses b)
    by_value o e true there = not_none o.value there ∙ sym (id_found s.map s.addresses b (object_lives s.map s.addresses h b o stands.stands.valid stands.stands.paired e there))
      where
        not_none : (x : Option (List ℕ)) → is_some x ≡ true → is_none x ≡ false
        not_none (Some x) there = refl
        not_none None there = absurd (both_ways false refl there)
    by_value o e false none = by_id o e none (id_at s.map s.addresses b) refl

    by_object : (x : Option Object) → object_at h b ≡ x → is_leftover x ≡ (is_out s.cache b && is_none (id_at s.map s.addresses b))
    by_object None e = ap (λ out. out && is_none (id_at s.map s.addresses b)) (sym (ap is_some e) ∙ stands.places b)
    by_object (Some o) e = by_value o e (is_some o.value) refl ∙ ap (λ out. out && is_none (id_at s.map s.addresses b)) (sym (ap is_some e) ∙ stands.places b)

pub leftover_same : (s : OneState) (h : HeapState) → OneStands s h → least_left_in h ≡ least_leftover s
leftover_same s h stands =
    ap (λ n. least_below n (λ b. is_leftover (object_at h b))) stands.size
    ∙ least_agree (buffers_of s.cache) (λ b. is_leftover (object_at h b)) (λ b. is_out s.cache b && is_none (id_at s.map s.addresses b)) (λ b. leftover_is s h b stands)

-- When every buffer has a record

-- an address without a record leaves room
pub room_left : (s : OneState) (h : HeapState) (b : ℕ) → OneStands s h → b < buffers_of s.cache → has_record (object_at h b) ≡ false → live_count s.map < buffers_of s.cache
room_left s h b stands below none = omega (arith, stands.stands.paired.count, stands.size, count_short has_record h.objects b None (omega (arith, stands.size, below)) none)

-- every buffer is out in a cache that is full
pub all_out : (cache : CacheState) (b : ℕ) → IsWhole cache → is_full cache ≡ true → b < buffers_of cache → is_out cache b ≡ true
all_out cache b whole full below =
    let row : b / cache.chunks < length cache.slabs = div_below b cache.chunks (length cache.slabs) whole.positive (omega (arith, below, whole.asked)) in
    let slab : SlabState = slab_at cache.slabs (b / cache.chunks) in
    let whole_slab : IsWholeSlab cache.chunks slab = whole.slabs (b / cache.chunks) no_slab row in
    let all : used slab ≡ length slab.out = eqb-true (used slab) (length slab.out) (full_slab row) in
    passes_all (λ x. x) slab.out (b % cache.chunks) false (omega (arith, whole_slab.size, mod_below b cache.chunks whole.positive)) all
  where
    full_slab : b / cache.chunks < length cache.slabs → (used (slab_at cache.slabs (b / cache.chunks)) == length (slab_at cache.slabs (b / cache.chunks)).out) ≡ true
    full_slab row = AllPass-from_list_all (λ slab. used slab == length slab.out) cache.slabs full (b / cache.chunks) no_slab row

-- and where there is no leftover, each has a record
pub no_room : (s : OneState) (h : HeapState) → OneStands s h → is_full s.cache ≡ true → least_leftover s ≡ None → live_count s.map ≡ buffers_of s.cache
no_room s h stands full none =
    sym stands.stands.paired.count ∙ (count_all has_record h.objects None (λ b below. kept b (omega (arith, below, stands.size))) ∙ stands.size)
  where
    by_object : (x : Option Object) → is_some x ≡ true → is_leftover x ≡ false → has_record x ≡ true
    by_object None there not_left = there
    by_object (Some o) there not_left = by_value o.value not_left
      where
        by_value : (v : Option (List ℕ)) → is_none v ≡ false → is_some v ≡ true
        by_value (Some v) e = refl
        by_value None e = absurd (both_ways true e refl)

    kept : (b : ℕ) → b < buffers_of s.cache → has_record (object_at h b) ≡ true
    kept b below =
        by_object (object_at h b) (stands.places b ∙ all_out s.cache b stands.whole full below)
        (leftover_is s h b stands ∙ fails_from_none (buffers_of s.cache) (λ b. is_out s.cache b && is_none (id_at s.map s.addresses b)) none b below)

-- a leftover leaves room
pub leftover_room : (s : OneState) (h : HeapState) (b : ℕ) → OneStands s h → least_leftover s ≡ Some b → live_count s.map < buffers_of s.cache
leftover_room s h b stands e =
    let found = least_from_some (buffers_of s.cache) (λ b. is_out s.cache b && is_none (id_at s.map s.addresses b)) b e in
    room_left s h b stands found.below (by_object (object_at h b) (leftover_is s h b stands ∙ found.passes))
  where
    by_object : (x : Option Object) → is_leftover x ≡ true → has_record x ≡ false
    by_object None left = refl
    by_object (Some o) left = by_value o.value left
      where
        by_value : (v : Option (List ℕ)) → is_none v ≡ true → is_some v ≡ false
        by_value None e = refl
        by_value (Some v) e = absurd (both_ways false refl e)

-- a cache is full where every buffer is out
pub full_from_out : (cache : CacheState) → IsWhole cache → ((b : ℕ) → b < buffers_of cache → is_out cache b ≡ true) → is_full cache ≡ true
full_from_out cache whole out =
    list_all-from_AllPass (λ slab. used slab == length slab.out) cache.slabs
    (λ i d below. subst (λ slab. (used slab == length slab.out) ≡ true) (get_or_default cache.slabs i no_slab d below) (full_slab i below))
  where
    full_slab : (i : ℕ) → i < length cache.slabs → (used (slab_at cache.slabs i) == length (slab_at cache.slabs i).out) ≡ true
    full_slab i below =
        let size : length (slab_at cache.slabs i).out ≡ cache.chunks = (whole.slabs i no_slab below).size in
        eq-eqb (used (slab_at cache.slabs i)) (length (slab_at cache.slabs i).out)
        (count_all (λ x. x) (slab_at cache.slabs i).out false (λ k within. on_slab k (subst (λ n. k < n) size within)))
      where
        on_slab : (k : ℕ) → k < cache.chunks → get_or (slab_at cache.slabs i).out k false ≡ true
        on_slab k within =
            let b : ℕ = i * cache.chunks + k in
            sym (ap₂ (λ r n. get_or (slab_at cache.slabs r).out n false) (div-mul-add i cache.chunks k within) (mod-mul-add i cache.chunks k within))
            ∙ out b (omega (arith, whole.asked, mul-add-lt i cache.chunks k (length cache.slabs) below within))

-- there is no room exactly where as many records live as there are buffers
pub room_is : (s : OneState) (h : HeapState) → OneStands s h → has_no_room s ≡ (live_count s.map == buffers_of s.cache)
room_is s h stands = ⊎_elim (λ same. none_left same ∙ sym (eq-eqb (live_count s.map) (buffers_of s.cache) same)) (λ other. some_left other ∙ sym (ne_eqb (live_count s.map) (buffers_of s.cache) other)) (cases_eq (live_count s.map) (buffers_of s.cache))
  where
    none_left : live_count s.map ≡ buffers_of s.cache → has_no_room s ≡ true
    none_left same = and_from (is_full s.cache) (is_none (least_leftover s)) (full_from_out s.cache stands.whole (λ b below. sym (stands.places b) ∙ there (object_at h b) (kept b below))) (ap is_none left)
      where
        kept : (b : ℕ) → b < buffers_of s.cache → has_record (object_at h b) ≡ true
        kept b below = ⊎_elim (λ yes. yes) (λ no. absurd (omega (arith, same, room_left s h b stands below no))) (cases_Bool (has_record (object_at h b)))

        there : (x : Option Object) → has_record x ≡ true → is_some x ≡ true
        there (Some o) e = refl
        there None e = e

        not_left : (x : Option Object) → has_record x ≡ true → is_leftover x ≡ false
        not_left None e = refl
        not_left (Some o) e = by_value o.value e
          where
            by_value : (v : Option (List ℕ)) → is_some v ≡ true → is_none v ≡ false
            by_value (Some v) e = refl
            by_value None e = absurd (both_ways false refl e)

        left : least_leftover s ≡ None
        left = none_from_fails (buffers_of s.cache) (λ b. is_out s.cache b && is_none (id_at s.map s.addresses b)) (λ b below. sym (leftover_is s h b stands) ∙ not_left (object_at h b) (kept b below))

    some_left : live_count s.map ≢ buffers_of s.cache → has_no_room s ≡ false
    some_left other = ⊎_elim (λ yes. absurd (full yes)) (λ no. no) (cases_Bool (has_no_room s))
      where
        full : has_no_room s ≡ true → ⊥
        full none = let parts = and_parts (is_full s.cache) (is_none (least_leftover s)) none in other (no_room s h stands parts.0 (is_none_says (least_leftover s) parts.1))
