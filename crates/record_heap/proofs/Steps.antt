-- What each change of a heap keeps, and the step of the map that it is.
use Rattle.std.proofs.Common.{◌≡◌, ◌≢◌, ℕ, ◌+◌, ◌<◌, ◌&&◌, ◌==◌, nat_le, Bool, true, false, List, [], length, get_or, set, map, Option, Some, None, is_some, is_none, option_map, option_and_then, sym, ◌∙◌, ap, ap₂, refl, subst, arith}
use Rattle.std.specs.List.{list_any}
use Rattle.std.specs.Option.{option_map_or}
use Rattle.std.proofs.Math.Seq.{map-set_same}
use Rattle.std.proofs.lemmas.Bool.{both_ways}
use Rattle.std.proofs.lemmas.List.{length-map}
use Rattle.kmem_text.specs.declared.command.Reply.{Reply}
use Rattle.kmem_text.specs.declared.command.Reply.TheVariants.{Val, At}
use Rattle.kmem_model.specs.CacheOrder.{least_below}
use Rattle.kmem_model.specs.Records.{Record, RecordMap, IsValid, no_records, id_of, held_at, record_at, is_live, value_at, name_count, tag_count, is_used, live_count, present_count, least_name, without_unused}
use Rattle.kmem_model.specs.Records as map_of
use Rattle.kmem_model.specs.RecordStep.{Step, get_step, at_step, read_step}
use Rattle.kmem_model.specs.Heap.{Object, HeapState, address_of, hold_at, object_at, record_of, has_record, is_leftover, address_in, IsTied, IsPaired}
use Rattle.record_heap.specs.Objects.{with_value, with_fixed, is_unused}
use Rattle.record_heap.specs.Changes.{value_in, changed_at, valued, fixed_at}
use Rattle.record_heap.specs.Kept.{IsObjectKept, IsHeapKept}
use Rattle.kmem_model.proofs.RecordsValid.{read_within}
use Rattle.kmem_model.proofs.Heaps.{least_agree}
use Rattle.record_heap.proofs.Tied.{put_at, IsCounted, counted_in, same_but, tied_used}
use Rattle.record_heap.proofs.Stands.{IsLed, led, led_tag, at_name, stands_at, stands_same, set_mapped}
use Rattle.record_heap.proofs.Kept.{one_if, kept_at, whole_of, whole_value, whole_fixed, named_valued, held_valued}

-- a record with these parts
abbrev pub record_with : List ℕ → Bool → Record
record_with value fixed = record { value = value; fixed = fixed }

-- a step with these parts
abbrev pub step_of : Reply → RecordMap → Step
step_of reply m = record { reply = reply; map = m }

-- Objects

-- there is an object at the address
pub record IsThere (h : HeapState) (b : ℕ) : Type 0 where
  pub o : Object
  pub at : object_at h b ≡ Some o

pub there : (h : HeapState) (b : ℕ) → is_some (object_at h b) ≡ true → IsThere h b
there h b some = by (object_at h b) refl some
  where
    by : (x : Option Object) → object_at h b ≡ x → is_some x ≡ true → IsThere h b
    by None is e = absurd (both_ways false refl e)
    by (Some o) is e = record { o = o; at = is }

-- an object with a record, to which something leads
pub record IsRecord (h : HeapState) (b : ℕ) : Type 0 where
  pub o : Object
  pub at : object_at h b ≡ Some o
  pub used : length o.names + o.holds ≢ 0
  pub has : is_some o.value ≡ true
  pub counts : IsCounted h.names h.tags b o
  pub whole : IsObjectKept o

pub of_name : (h : HeapState) (p r l : ℕ) → IsHeapKept h p r l → (name b : ℕ) → address_of h name ≡ Some b → IsRecord h b
of_name h p r l kept name b leads =
    let t = there h b (kept.tied.named name b leads) in
    let v = named_valued h p r l kept name b t.o leads t.at in
    record { o = t.o; at = t.at; used = v.0; has = v.1; counts = counted_in h b t.o (kept.tied.objects b t.o t.at); whole = kept.whole b t.o t.at }

pub of_tag : (h : HeapState) (p r l : ℕ) → IsHeapKept h p r l → (place b : ℕ) → hold_at h place ≡ Some b → IsRecord h b
of_tag h p r l kept place b leads =
    let t = there h b (kept.tied.held place b leads) in
    let v = held_valued h p r l kept place b t.o leads t.at in
    record { o = t.o; at = t.at; used = λ none. omega (arith, none, v.0); has = v.1; counts = counted_in h b t.o (kept.tied.objects b t.o t.at); whole = kept.whole b t.o t.at }

pub value_there : (h : HeapState) (b : ℕ) → IsRecord h b → is_some (value_in h b) ≡ true
value_there h b r = ap (λ (x : Option Object). is_some (option_and_then (λ (o : Object). o.value) x)) r.at ∙ r.has

-- Values

value_of : (x : Option Object) (v : List ℕ) → option_and_then (λ (o : Object). o.value) x ≡ Some v → option_map_or (λ (r : Record). r.value) (option_and_then record_of x) [] ≡ v
value_of None v e = absurd (cc)
value_of (Some o) v e = by o.value e
  where
    some_is : (x y : List ℕ) → ◌≡◌ {A = Option (List ℕ)} (Some x) (Some y) → x ≡ y
    some_is x y same = cc

    by : (w : Option (List ℕ)) → w ≡ Some v → option_map_or (λ (r : Record). r.value) (option_map (λ value. record { value = value; fixed = o.fixed }) w) [] ≡ v
    by None is = absurd (cc)
    by (Some w) is = some_is w v is

-- the value that is read at an address is that of the id
pub value_same : (m : RecordMap) (a : List ℕ) (h : HeapState) → IsPaired m a h → (x : Option ℕ) (b : ℕ) (l : IsLed m a x b) (v : List ℕ) → value_in h b ≡ Some v → v ≡ value_at m l.id
value_same m a h s x b l v e =
    sym (value_of (object_at h b) v e)
    ∙ ap (λ (r : Option Record). option_map_or (λ (q : Record). q.value) r [])
    (ap (λ c. option_and_then record_of (object_at h c)) (sym l.at) ∙ s.records l.id l.live)

pub record_same : (m : RecordMap) (a : List ℕ) (h : HeapState) → IsPaired m a h → (x : Option ℕ) (b : ℕ) (l : IsLed m a x b) (o : Object) → object_at h b ≡ Some o → record_of o ≡ record_at m l.id
record_same m a h s x b l o at = ap (option_and_then record_of) (sym at) ∙ (ap (λ c. option_and_then record_of (object_at h c)) (sym l.at) ∙ s.records l.id l.live)

-- Replies that change nothing

pub get_some : (m : RecordMap) (a : List ℕ) (h : HeapState) → IsValid m → IsPaired m a h → (name b : ℕ) (v : List ℕ) → address_of h name ≡ Some b → value_in h b ≡ Some v → Val v ≡ (get_step m (id_of m name)).reply
get_some m a h valid s name b v leads is =
    let l = led m a h valid s name b leads in
    ap Val (value_same m a h s (id_of m name) b l v is) ∙ ap (λ x. (get_step m x).reply) (sym l.is)

pub read_some : (m : RecordMap) (a : List ℕ) (h : HeapState) → IsValid m → IsPaired m a h → (place b : ℕ) (v : List ℕ) → hold_at h place ≡ Some b → value_in h b ≡ Some v → Val v ≡ (read_step m (held_at m place)).reply
read_some m a h valid s place b v leads is =
    let l = led_tag m a h valid s place b leads in
    ap Val (value_same m a h s (held_at m place) b l v is) ∙ ap (λ x. (read_step m x).reply) (sym l.is)

pub at_some : (m : RecordMap) (a : List ℕ) (h : HeapState) → IsValid m → IsPaired m a h → (name b : ℕ) (v : List ℕ) → address_of h name ≡ Some b → value_in h b ≡ Some v → At (record { 0 = name }) v ≡ (at_step m (Some name)).reply
at_some m a h valid s name b v leads is =
    let l = led m a h valid s name b leads in
    ap (At (record { 0 = name })) (value_same m a h s (id_of m name) b l v is)
    ∙ ap (λ (x : Option ℕ). At (record { 0 = name }) (named m x)) (sym l.is)
  where
    named : RecordMap → Option ℕ → List ℕ
    named k None = []
    named k (Some id) = value_at k id

pub least_named : (m : RecordMap) (a : List ℕ) (h : HeapState) → IsPaired m a h → (from : ℕ) → least_below (length h.names) (λ name. nat_le from name && is_some (address_of h name)) ≡ least_name m from
least_named m a h s from =
    ap (λ n. least_below n (λ name. nat_le from name && is_some (address_of h name))) (ap (λ (xs : List (Option ℕ)). length xs) s.names ∙ length-map m.names (option_map (address_in a)))
    ∙ least_agree (length m.names) (λ name. nat_le from name && is_some (address_of h name)) (λ name. nat_le from name && is_some (id_of m name))
    (λ k. ap (λ t. nat_le from k && t) (ap is_some (at_name m a h s k) ∙ some_mapped (id_of m k)))
  where
    some_mapped : (x : Option ℕ) → is_some (option_map (address_in a) x) ≡ is_some x
    some_mapped None = refl
    some_mapped (Some i) = refl

-- Places

some_changed : (change : Object → Object) (x : Option Object) → is_some (option_map change x) ≡ is_some x
some_changed change None = refl
some_changed change (Some o) = refl

pub places_changed : (objects : List (Option Object)) (b : ℕ) (change : Object → Object) → map is_some (set objects b (option_map change (get_or objects b None))) ≡ map is_some objects
places_changed objects b change = map-set_same is_some objects b (option_map change (get_or objects b None)) None (some_changed change (get_or objects b None))

-- One record changes where it lies

module _ (m : RecordMap) (a : List ℕ) (h : HeapState) (s : IsPaired m a h) (x : Option ℕ) (b : ℕ) (l : IsLed m a x b) where
  pub same_there : (mnames mtags names tags : List (Option ℕ)) (o : Option Object) → names ≡ map (option_map (address_in a)) mnames → tags ≡ map (option_map (address_in a)) mtags →
      option_and_then record_of o ≡ record_at m l.id → IsTied (put_at h names tags b o) → IsPaired (record { names = mnames; records = m.records; tags = mtags }) a (put_at h names tags b o)
  same_there mnames mtags names tags o same_names same_tags is =
      subst (λ c. IsTied (put_at h names tags c o) → IsPaired (record { names = mnames; records = m.records; tags = mtags }) a (put_at h names tags c o)) l.at
      (stands_same m a h s l.id l.live mnames mtags names tags o same_names same_tags is)

  pub changed_there : (mnames mtags names tags : List (Option ℕ)) (r : Option Record) (o : Option Object) → names ≡ map (option_map (address_in a)) mnames → tags ≡ map (option_map (address_in a)) mtags →
      option_and_then record_of o ≡ r → IsTied (put_at h names tags b o) → IsPaired (record { names = mnames; records = set m.records l.id r; tags = mtags }) a (put_at h names tags b o)
  changed_there mnames mtags names tags r o same_names same_tags is =
      subst (λ c. IsTied (put_at h names tags c o) → IsPaired (record { names = mnames; records = set m.records l.id r; tags = mtags }) a (put_at h names tags c o)) l.at
      (stands_at m a h s l.id l.live mnames mtags names tags r o same_names same_tags is)

  -- a name or a tag that leads to the id
  pub begun_mapped : (mxs xs : List (Option ℕ)) (i : ℕ) → xs ≡ map (option_map (address_in a)) mxs → set xs i (Some b) ≡ map (option_map (address_in a)) (set mxs i (Some l.id))
  begun_mapped mxs xs i same = ap (λ c. set xs i (Some c)) (sym l.at) ∙ set_mapped a mxs xs i (Some l.id) same

  pub ended_mapped : (mxs xs : List (Option ℕ)) (i : ℕ) → xs ≡ map (option_map (address_in a)) mxs → set xs i None ≡ map (option_map (address_in a)) (set mxs i None)
  ended_mapped mxs xs i same = set_mapped a mxs xs i None same

-- Values and flags

module _ (h : HeapState) (p r l : ℕ) (kept : IsHeapKept h p r l) (b : ℕ) (it : IsRecord h b) where
  pub low : b < length h.objects
  low = read_within h.objects b it.o it.at

  -- an object with as many names and holds
  tied_same : (o : Object) → IsCounted h.names h.tags b o → length o.names + o.holds ≢ 0 → IsTied (put_at h h.names h.tags b (Some o))
  tied_same o counts used = tied_used h h.names h.tags b kept.tied low (same_but b h.names) (same_but b h.tags) o counts used

  counts_of : (o : Object) → o.names ≡ it.o.names → o.holds ≡ it.o.holds → IsCounted h.names h.tags b o
  counts_of o names holds =
      record {
        back = λ name. ap (list_any (λ other. other == name)) names ∙ it.counts.back name;
        once = ap (λ (xs : List ℕ). length xs) names ∙ it.counts.once;
        held = holds ∙ it.counts.held;
      }

  pub record_now : has_record (object_at h b) ≡ true
  record_now = ap has_record it.at ∙ it.has

  pub left_now : is_leftover (object_at h b) ≡ is_none it.o.value
  left_now = ap is_leftover it.at

  pub none_some : (v : Option (List ℕ)) → is_some v ≡ true → is_none v ≡ false
  none_some None e = absurd (both_ways false refl e)
  none_some (Some v) e = refl

  -- where the record lives on, the counts of objects stay
  pub counts_stay : (o : Object) → is_some o.value ≡ true → (r + one_if (has_record (object_at h b)) ≡ r + one_if (has_record (Some o))) × (l + one_if (is_leftover (object_at h b)) ≡ l + one_if (is_leftover (Some o)))
  counts_stay o has =
      (ap (λ t. r + one_if t) (record_now ∙ sym has), ap (λ t. l + one_if t) (left_now ∙ (none_some it.o.value it.has ∙ sym (none_some o.value has))))

  -- the object changes, and its names and tags stay
  kept_same : (o : Object) → o.names ≡ it.o.names → o.holds ≡ it.o.holds → is_some o.value ≡ true → IsObjectKept o → IsHeapKept (put_at h h.names h.tags b (Some o)) p r l
  kept_same o names holds has whole =
      let c = counts_stay o has in
      kept_at h p r l kept h.names h.tags b low (Some o) p r l (tied_same o (counts_of o names holds) (used_of o names holds)) (whole_of o whole) refl refl kept.names_counted c.0 c.1
    where
      used_of : (q : Object) → q.names ≡ it.o.names → q.holds ≡ it.o.holds → length q.names + q.holds ≢ 0
      used_of q n k e = it.used (sym (ap₂ (λ (xs : List ℕ) (j : ℕ). length xs + j) n k) ∙ e)

  changed_is : (change : Object → Object) → changed_at h b change ≡ put_at h h.names h.tags b (Some (change it.o))
  changed_is change = ap (λ (y : Option Object). put_at h h.names h.tags b (option_map change y)) it.at

  pub fixed_kept : (fixed : Bool) → IsHeapKept (fixed_at h b fixed) p r l
  fixed_kept fixed =
      subst (λ k. IsHeapKept k p r l) (sym (changed_is (with_fixed fixed))) (kept_same (with_fixed fixed it.o) refl refl it.has (whole_fixed it.o fixed it.whole))

  pub valued_kept : (value : List ℕ) → IsHeapKept (valued h b value) p r l
  valued_kept value =
      subst (λ k. IsHeapKept k p r l) (sym (changed_is (with_value value))) (kept_same (with_value value it.o) refl refl refl (whole_value it.o value it.whole))

  module _ (m : RecordMap) (a : List ℕ) (s : IsPaired m a h) (x : Option ℕ) (led_to : IsLed m a x b) where
    pub fixed_stands : (fixed : Bool) → IsPaired (map_of.with_fixed m led_to.id fixed) a (fixed_at h b fixed)
    fixed_stands fixed =
        subst (λ k. IsPaired (map_of.with_fixed m led_to.id fixed) a k) (sym (changed_is (with_fixed fixed)))
        (changed_there m a h s x b led_to m.names m.tags h.names h.tags (option_map (λ (q : Record). record_with q.value fixed) (record_at m led_to.id)) (Some (with_fixed fixed it.o)) s.names s.tags
        (by it.o.value ∙ ap (option_map (λ (q : Record). record_with q.value fixed)) (record_same m a h s x b led_to it.o it.at))
        (fixed_kept' fixed))
      where
        by : (v : Option (List ℕ)) → option_map (λ (value : List ℕ). record_with value fixed) v ≡ option_map (λ (q : Record). record_with q.value fixed) (option_map (λ (value : List ℕ). record_with value it.o.fixed) v)
        by None = refl
        by (Some v) = refl

        fixed_kept' : (f : Bool) → IsTied (put_at h h.names h.tags b (Some (with_fixed f it.o)))
        fixed_kept' f = (kept_same (with_fixed f it.o) refl refl it.has (whole_fixed it.o f it.whole)).tied

    pub valued_stands : (value : List ℕ) → IsPaired (map_of.with_value m led_to.id value) a (valued h b value)
    valued_stands value =
        subst (λ k. IsPaired (map_of.with_value m led_to.id value) a k) (sym (changed_is (with_value value)))
        (changed_there m a h s x b led_to m.names m.tags h.names h.tags (option_map (λ (q : Record). record_with value q.fixed) (record_at m led_to.id)) (Some (with_value value it.o)) s.names s.tags
        (by it.o.value it.has ∙ ap (option_map (λ (q : Record). record_with value q.fixed)) (record_same m a h s x b led_to it.o it.at))
        (kept_same (with_value value it.o) refl refl refl (whole_value it.o value it.whole)).tied)
      where
        by : (v : Option (List ℕ)) → is_some v ≡ true → Some (record_with value it.o.fixed) ≡ option_map (λ (q : Record). record_with value q.fixed) (option_map (λ (w : List ℕ). record_with w it.o.fixed) v)
        by None e = absurd (both_ways false refl e)
        by (Some v) e = refl

-- What a call told

pub none_from : (x : Option ℕ) → is_some x ≡ false → x ≡ None
none_from None e = refl
none_from (Some i) e = absurd (both_ways true e refl)

-- whether the object is unused, as it was answered
pub unused_is : (x : Option Object) (o : Object) (b : Bool) → x ≡ Some o → option_map is_unused x ≡ Some b → is_unused o ≡ b
unused_is x o b is told = same (is_unused o) b (sym (ap (option_map is_unused) is) ∙ told)
  where
    same : (t u : Bool) → ◌≡◌ {A = Option Bool} (Some t) (Some u) → t ≡ u
    same t u e = cc
