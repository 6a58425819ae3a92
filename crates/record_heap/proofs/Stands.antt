-- A heap stands for the next map where one record changes, and for the same map after a move.
use Rattle.std.proofs.Common.{◌≡◌, ◌≢◌, ℕ, zero, suc, ◌+◌, ◌<◌, ◌==◌, nat_lt, true, false, not, cond, List, [], ◌∷◌, ◌++◌, length, get_or, set, map, count_by, Option, Some, None, is_some, is_none, option_map, option_and_then, sym, ◌∙◌, ap, ap₂, refl, subst, arith, ⊎_elim, inl, inr, ◌⊎◌}
use Rattle.std.proofs.lemmas.Bool.{both_ways, cases_lt, cases_eq, ne_eqb, lt-ltb}
use Rattle.std.proofs.lemmas.List.{get_or-set_same, get_or-set_other, length-set, get_or_append_left, get_or_push, length_push, map-set, set-get_or}
use Rattle.std.proofs.lemmas.List.Sums.{sum_by_push}
use Rattle.kmem_model.specs.CacheOrder.{is_the}
use Rattle.kmem_model.specs.Records.{Record, RecordMap, IsValid, id_of, held_at, record_at, is_live, name_count, tag_count, is_used}
use Rattle.kmem_model.specs.RecordStep.{put_step}
use Rattle.kmem_model.specs.Heap.{Object, HeapState, address_of, hold_at, object_at, record_of, has_record, is_leftover, address_in, IsTied, IsPaired}
use Rattle.record_heap.specs.Objects.{is_unused}
use Rattle.record_heap.specs.Changes.{first_object}
use Rattle.kmem_model.proofs.CacheLists.{count-set, count-set_same, count-set_more}
use Rattle.kmem_model.proofs.RecordsValid.{some_within}
use Rattle.record_heap.proofs.Lists.{count_apart, read-map, map_agree}
use Rattle.record_heap.proofs.Tied.{put_at, IsCounted}

-- Look-ups

some_of : (f : ℕ → ℕ) (o : Option ℕ) (b : ℕ) → option_map f o ≡ Some b → (i : ℕ) × (o ≡ Some i) × (f i ≡ b)
some_of f None b e = absurd (cc)
some_of f (Some i) b e = (i, refl, (cc))

none_of : (f : ℕ → ℕ) (o : Option ℕ) → option_map f o ≡ None → o ≡ None
none_of f None e = refl
none_of f (Some i) e = absurd (cc)

pub at_name : (m : RecordMap) (a : List ℕ) (h : HeapState) → IsPaired m a h → (name : ℕ) → address_of h name ≡ option_map (address_in a) (id_of m name)
at_name m a h s name = ap (λ xs. get_or xs name None) s.names ∙ read-map (address_in a) m.names name

pub at_tag : (m : RecordMap) (a : List ℕ) (h : HeapState) → IsPaired m a h → (place : ℕ) → hold_at h place ≡ option_map (address_in a) (held_at m place)
at_tag m a h s place = ap (λ xs. get_or xs place None) s.tags ∙ read-map (address_in a) m.tags place

-- the record to which something leads that has this address
pub record IsLed (m : RecordMap) (a : List ℕ) (o : Option ℕ) (b : ℕ) : Type 0 where
  pub id : ℕ
  pub is : o ≡ Some id
  pub live : is_live m id ≡ true
  pub at : address_in a id ≡ b

pub led : (m : RecordMap) (a : List ℕ) (h : HeapState) → IsValid m → IsPaired m a h → (name b : ℕ) → address_of h name ≡ Some b → IsLed m a (id_of m name) b
led m a h valid s name b e =
    let found = some_of (address_in a) (id_of m name) b (sym (at_name m a h s name) ∙ e) in
    record { id = found.0; is = found.1; live = valid.named name found.0 found.1; at = found.2 }

pub led_tag : (m : RecordMap) (a : List ℕ) (h : HeapState) → IsValid m → IsPaired m a h → (place b : ℕ) → hold_at h place ≡ Some b → IsLed m a (held_at m place) b
led_tag m a h valid s place b e =
    let found = some_of (address_in a) (held_at m place) b (sym (at_tag m a h s place) ∙ e) in
    record { id = found.0; is = found.1; live = valid.held place found.0 found.1; at = found.2 }

pub no_name : (m : RecordMap) (a : List ℕ) (h : HeapState) → IsPaired m a h → (name : ℕ) → address_of h name ≡ None → id_of m name ≡ None
no_name m a h s name e = none_of (address_in a) (id_of m name) (sym (at_name m a h s name) ∙ e)

pub no_tag : (m : RecordMap) (a : List ℕ) (h : HeapState) → IsPaired m a h → (place : ℕ) → hold_at h place ≡ None → held_at m place ≡ None
no_tag m a h s place e = none_of (address_in a) (held_at m place) (sym (at_tag m a h s place) ∙ e)

-- Objects and their records

some_value : (f : List ℕ → Record) (v : Option (List ℕ)) → is_some (option_map f v) ≡ is_some v
some_value f None = refl
some_value f (Some v) = refl

pub recorded : (o : Option Object) → has_record o ≡ is_some (option_and_then record_of o)
recorded None = refl
recorded (Some o) = sym (some_value (λ value. record { value = value; fixed = o.fixed }) o.value)

pub object_live : (m : RecordMap) (a : List ℕ) (h : HeapState) → IsPaired m a h → (id : ℕ) → is_live m id ≡ true → has_record (object_at h (address_in a id)) ≡ true
object_live m a h s id live = recorded (object_at h (address_in a id)) ∙ (ap is_some (s.records id live) ∙ live)

there : (o : Option Object) → has_record o ≡ true → is_some o ≡ true
there None e = e
there (Some o) e = refl

pub object_low : (m : RecordMap) (a : List ℕ) (h : HeapState) → IsPaired m a h → (id : ℕ) → is_live m id ≡ true → address_in a id < length h.objects
object_low m a h s id live = some_within h.objects (address_in a id) (there (object_at h (address_in a id)) (object_live m a h s id live))

-- where an object has no record, no live id has its address
pub off : (m : RecordMap) (a : List ℕ) (h : HeapState) → IsPaired m a h → (b : ℕ) → has_record (object_at h b) ≡ false → (id : ℕ) → is_live m id ≡ true → address_in a id ≢ b
off m a h s b none id live e =
    both_ways (has_record (object_at h b)) none (ap (λ n. has_record (object_at h n)) (sym e) ∙ object_live m a h s id live)

-- One record changes

module _ (m : RecordMap) (a : List ℕ) (h : HeapState) (s : IsPaired m a h) (id : ℕ) (live : is_live m id ≡ true) where
  live_before : (r : Option Record) (j : ℕ) → is_some (get_or (set m.records id r) j None) ≡ true → is_live m j ≡ true
  live_before r j is =
      ⊎_elim (λ same. ap (is_live m) same ∙ live) (λ apart. ap is_some (sym (get_or-set_other m.records id j r None apart)) ∙ is) (cases_eq j id)

  pub stands_at : (mnames mtags names tags : List (Option ℕ)) (r : Option Record) (o : Option Object) → names ≡ map (option_map (address_in a)) mnames →
      tags ≡ map (option_map (address_in a)) mtags → option_and_then record_of o ≡ r → IsTied (put_at h names tags (address_in a id) o) →
      IsPaired (record { names = mnames; records = set m.records id r; tags = mtags }) a (put_at h names tags (address_in a id) o)
  stands_at mnames mtags names tags r o same_names same_tags is tied =
      let b = address_in a id in
      let low : b < length h.objects = object_low m a h s id live in
      let low_id : id < length m.records = some_within m.records id live in
      record {
        size = s.size ∙ sym (length-set m.records id r);
        names = same_names;
        tags = same_tags;
        records = λ j lives.
            ⊎_elim
            (λ same.
            ap (λ i. option_and_then record_of (get_or (set h.objects b o) (address_in a i) None)) same
            ∙ (ap (option_and_then record_of) (get_or-set_same h.objects b o None low)
            ∙ (is ∙ (sym (get_or-set_same m.records id r None low_id) ∙ ap (λ i. get_or (set m.records id r) i None) (sym same)))))
            (λ apart.
            let was = live_before r j lives in
            ap (option_and_then record_of) (get_or-set_other h.objects b (address_in a j) o None (λ e. apart (s.apart j id was live e)))
            ∙ (s.records j was ∙ sym (get_or-set_other m.records id j r None apart)))
            (cases_eq j id);
        apart = λ i j lives others same. s.apart i j (live_before r i lives) (live_before r j others) same;
        count =
            omega (
              arith,
              s.count,
              count-set has_record h.objects b o None low,
              count-set is_some m.records id r None low_id,
              ap {B = ℕ} (λ t. cond t 1 0) (object_live m a h s id live),
              ap {B = ℕ} (λ t. cond t 1 0) live,
              ap {B = ℕ} (λ t. cond t 1 0) (recorded o ∙ ap is_some is),
            );
        tied = tied;
      }

  -- the record stays as it was
  pub stands_same : (mnames mtags names tags : List (Option ℕ)) (o : Option Object) → names ≡ map (option_map (address_in a)) mnames →
      tags ≡ map (option_map (address_in a)) mtags → option_and_then record_of o ≡ record_at m id → IsTied (put_at h names tags (address_in a id) o) →
      IsPaired (record { names = mnames; records = m.records; tags = mtags }) a (put_at h names tags (address_in a id) o)
  stands_same mnames mtags names tags o same_names same_tags is tied =
      subst (λ (rs : List (Option Record)). IsPaired (record { names = mnames; records = rs; tags = mtags }) a (put_at h names tags (address_in a id) o))
      (set-get_or m.records id None) (stands_at mnames mtags names tags (record_at m id) o same_names same_tags is tied)

-- a name or a tag that leads to an id is one to its address
pub set_mapped : (a : List ℕ) (mxs xs : List (Option ℕ)) (i : ℕ) (o : Option ℕ) → xs ≡ map (option_map (address_in a)) mxs → set xs i (option_map (address_in a) o) ≡ map (option_map (address_in a)) (set mxs i o)
set_mapped a mxs xs i o same = ap (λ ys. set ys i (option_map (address_in a) o)) same ∙ sym (map-set (option_map (address_in a)) mxs i o)

-- The map's counts are those of the object

pub is_used_by : (m : RecordMap) (a : List ℕ) (names tags : List (Option ℕ)) (id : ℕ) (o : Object) → names ≡ map (option_map (address_in a)) m.names → tags ≡ map (option_map (address_in a)) m.tags →
    ((i j : ℕ) → get_or m.names i None ≡ Some j → address_in a j ≡ address_in a id → j ≡ id) → ((i j : ℕ) → get_or m.tags i None ≡ Some j → address_in a j ≡ address_in a id → j ≡ id) →
    IsCounted names tags (address_in a id) o → (length o.names ≡ name_count m id) × (is_used m id ≡ not (is_unused o))
is_used_by m a names tags id o same_names same_tags apart_names apart_tags counts =
    let b = address_in a id in
    let n : length o.names ≡ name_count m id =
    counts.once ∙ (ap (count_by (λ c. is_the c b)) same_names ∙ count_apart (address_in a) id m.names apart_names) in
    let t : o.holds ≡ tag_count m id =
    counts.held ∙ (ap (count_by (λ c. is_the c b)) same_tags ∙ count_apart (address_in a) id m.tags apart_tags) in
    (n, ap₂ (λ (x y : ℕ). nat_lt 0 (x + y)) (sym n) (sym t) ∙ positive (length o.names + o.holds))
  where
    positive : (n : ℕ) → nat_lt 0 n ≡ not (n == 0)
    positive zero = refl
    positive (suc n) = lt-ltb 0 (suc n) (omega arith) ∙ sym (ap not (ne_eqb (suc n) 0 (λ e. omega (arith, e))))

-- A new record

module _ (m : RecordMap) (a : List ℕ) (h : HeapState) (valid : IsValid m) (s : IsPaired m a h) (name b : ℕ) (value : List ℕ) (low : b < length h.objects) (none : has_record (object_at h b) ≡ false) where
  old_at : (j : ℕ) → is_live m j ≡ true → address_in (a ++ b ∷ []) j ≡ address_in a j
  old_at j live = get_or_append_left a (b ∷ []) 0 j (omega (arith, s.size, some_within m.records j live))

  new_at : address_in (a ++ b ∷ []) (length m.records) ≡ b
  new_at = get_or_push a b 0 (length m.records) s.size

  -- the ids of the next map are those of the last, and one more
  cases_id : (j : ℕ) → is_some (get_or (m.records ++ Some (record { value = value; fixed = false }) ∷ []) j None) ≡ true → (is_live m j ≡ true) ⊎ (j ≡ length m.records)
  cases_id j lives =
      ⊎_elim (λ below. inl (ap is_some (sym (get_or_append_left m.records (Some (record { value = value; fixed = false }) ∷ []) None j below)) ∙ lives))
      (λ past. inr (let z : j ≡ length m.records = omega (arith, past, some_within (m.records ++ Some (record { value = value; fixed = false }) ∷ []) j lives, length_push m.records (Some (record { value = value; fixed = false }))) in z))
      (cases_lt j (length m.records))

  pub stands_made : IsTied (put_at h (set h.names name (Some b)) h.tags b (Some (first_object name value))) →
      IsPaired (put_step m name value None).map (a ++ b ∷ []) (put_at h (set h.names name (Some b)) h.tags b (Some (first_object name value)))
  stands_made tied =
      let n = length m.records in
      let a' = a ++ b ∷ [] in
      let new : Option Record = Some (record { value = value; fixed = false }) in
      let far : (j : ℕ) → is_live m j ≡ true → address_in a' j ≢ b = λ j live e. off m a h s b none j live (sym (old_at j live) ∙ e) in
      record {
        size = length_push a b ∙ (ap (λ k. k + 1) s.size ∙ sym (length_push m.records new));
        names =
            ap₂ (λ (xs : List (Option ℕ)) (c : ℕ). set xs name (Some c)) (s.names ∙ map_agree (address_in a) (address_in a') m.names (λ i j is. sym (old_at j (valid.named i j is)))) (sym new_at)
            ∙ sym (map-set (option_map (address_in a')) m.names name (Some n));
        tags = s.tags ∙ map_agree (address_in a) (address_in a') m.tags (λ i j is. sym (old_at j (valid.held i j is)));
        records = λ j lives.
            ⊎_elim
            (λ was.
            ap (λ c. option_and_then record_of (get_or (set h.objects b (Some (first_object name value))) c None)) (old_at j was)
            ∙ (ap (option_and_then record_of) (get_or-set_other h.objects b (address_in a j) (Some (first_object name value)) None (off m a h s b none j was))
            ∙ (s.records j was ∙ sym (get_or_append_left m.records (new ∷ []) None j (some_within m.records j was)))))
            (λ is.
            ap (λ i. option_and_then record_of (get_or (set h.objects b (Some (first_object name value))) (address_in a' i) None)) is
            ∙ (ap (λ c. option_and_then record_of (get_or (set h.objects b (Some (first_object name value))) c None)) new_at
            ∙ (ap (option_and_then record_of) (get_or-set_same h.objects b (Some (first_object name value)) None low)
            ∙ (sym (get_or_push m.records new None n refl) ∙ ap (λ i. get_or (m.records ++ new ∷ []) i None) (sym is)))))
            (cases_id j lives);
        apart = λ i j lives others same.
            ⊎_elim
            (λ was.
            ⊎_elim (λ other. s.apart i j was other (sym (old_at i was) ∙ (same ∙ old_at j other)))
            (λ is. absurd (far i was (same ∙ (ap (address_in a') is ∙ new_at)))) (cases_id j others))
            (λ is.
            ⊎_elim (λ other. absurd (far j other (sym same ∙ (ap (address_in a') is ∙ new_at)))) (λ too. is ∙ sym too) (cases_id j others))
            (cases_id i lives);
        count =
            omega (
              arith,
              s.count,
              count-set_more has_record h.objects b (Some (first_object name value)) None low none refl,
              sum_by_push (λ x. cond (is_some x) 1 0) m.records new,
            );
        tied = tied;
      }

-- A leftover goes

pub no_record : (o : Option Object) → is_leftover o ≡ true → has_record o ≡ false
no_record None e = refl
no_record (Some o) e = by o.value e
  where
    by : (v : Option (List ℕ)) → is_none v ≡ true → is_some v ≡ false
    by None h = refl
    by (Some x) h = absurd (both_ways false refl h)

pub stands_without : (m : RecordMap) (a : List ℕ) (h : HeapState) → IsPaired m a h → (b : ℕ) → has_record (object_at h b) ≡ false → IsTied (put_at h h.names h.tags b None) →
    IsPaired m a (put_at h h.names h.tags b None)
stands_without m a h s b none tied =
    record {
      size = s.size;
      names = s.names;
      tags = s.tags;
      records = λ j lives.
          ap (option_and_then record_of) (get_or-set_other h.objects b (address_in a j) None None (off m a h s b none j lives)) ∙ s.records j lives;
      apart = s.apart;
      count = count-set_same has_record h.objects b None None (sym none) ∙ s.count;
      tied = tied;
    }
