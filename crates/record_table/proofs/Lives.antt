-- How many records live after a step, and after a history that ended some.
use Rattle.std.proofs.Common.{◌≡◌, ℕ, ◌+◌, ◌<◌, ◌≤◌, ◌==◌, ◌&&◌, ◌||◌, nat_lt, Bool, true, false, cond, List, [], ◌∷◌, ◌++◌, length, get_or, set, Option, None, Some, is_some, option_map, count_by, ⊎_elim, sym, ap, ap₂, ◌∙◌, refl, arith}
use Rattle.std.specs.List.{list_any}
use Rattle.std.proofs.lemmas.Bool.{cases_lt, cond_both, both_ways, lt-ltb}
use Rattle.std.proofs.lemmas.List.{get_or-set_same, get_or_past, set_past}
use Rattle.std.proofs.lemmas.List.Sums.{sum_by_push}
use Rattle.std.proofs.lemmas.List.Folds.{list_any-append}
use Rattle.kmem_text.specs.declared.command.NameId.{NameId}
use Rattle.kmem_text.specs.declared.command.Tag.{Tag}
use Rattle.kmem_text.specs.declared.command.Command.TheVariants.{Link, Hold, Write, Fix, Loose}
use Rattle.kmem_model.specs.Records.{Record, RecordMap, tag_place, id_of, held_at, record_at, is_live, name_count, is_used, live_count, with_name, changed_at, without_unused}
use Rattle.kmem_model.specs.RecordStep.{Step, put_step, del_step, link_step, hold_step, write_step, fix_step, step}
use Rattle.kmem_model.specs.History.{map_next, map_after}
use Rattle.kmem_model.specs.declared.record_entry.RecordEntry.{RecordEntry}
use Rattle.kmem_model.proofs.CacheLists.{count-set, count-set_same}
use Rattle.record_table.specs.Ended.{drops, has_dropped, ends_record, has_ended}

-- Steps

-- a record that is changed lives on
change_lives : (m : RecordMap) (id : ℕ) (change : Record → Record) → live_count (changed_at m id change) ≡ live_count m
change_lives m id change = count-set_same is_some m.records id (option_map change (record_at m id)) None (one (record_at m id))
  where
    one : (x : Option Record) → is_some (option_map change x) ≡ is_some x
    one None = refl
    one (Some r) = refl

pub put_lives : (m : RecordMap) (name : ℕ) (value : List ℕ) (id : Option ℕ) → live_count m ≤ live_count (put_step m name value id).map
put_lives m name value None =
    omega (arith, sum_by_push (λ (x : Option Record). cond (is_some x) 1 0) m.records (Some (record { value = value; fixed = false })))
put_lives m name value (Some id) =
    let same = change_lives m id (λ r. record { value = value; fixed = r.fixed }) in
    omega (arith, same)

-- a put of an absent name makes one more
pub put_new_lives : (m : RecordMap) (name : ℕ) (value : List ℕ) → live_count (put_step m name value None).map ≡ live_count m + 1
put_new_lives m name value = sum_by_push (λ (x : Option Record). cond (is_some x) 1 0) m.records (Some (record { value = value; fixed = false }))

link_records : (m : RecordMap) (other : ℕ) (id : Option ℕ) → (link_step m other id).map.records ≡ m.records
link_records m other None = refl
link_records m other (Some id) =
    cond_both (is_some (id_of m other)) _ _ (λ (s : Step). s.map.records ≡ m.records) (λ e. refl)
    (λ e. cond_both (name_count m id == 8) _ _ (λ (s : Step). s.map.records ≡ m.records) (λ f. refl) (λ f. refl))

pub link_lives : (m : RecordMap) (worker : ℕ) (name other : NameId) → live_count m ≤ live_count (step m worker (Link name other)).map
link_lives m worker name other = omega (arith, ap (count_by is_some) (link_records m other.0 (id_of m name.0)))

hold_records : (m : RecordMap) (place : ℕ) (held named : Option ℕ) → (hold_step m place held named).map.records ≡ m.records
hold_records m place (Some held) named = refl
hold_records m place None None = refl
hold_records m place None (Some id) = refl

pub hold_lives : (m : RecordMap) (worker : ℕ) (tag : Tag) (name : NameId) → live_count m ≤ live_count (step m worker (Hold tag name)).map
hold_lives m worker tag name = omega (arith, ap (count_by is_some) (hold_records m (tag_place worker tag) (held_at m (tag_place worker tag)) (id_of m name.0)))

write_same : (m : RecordMap) (value : List ℕ) (held : Option ℕ) → live_count (write_step m value held).map ≡ live_count m
write_same m value None = refl
write_same m value (Some id) = change_lives m id (λ r. record { value = value; fixed = r.fixed })

pub write_lives : (m : RecordMap) (worker : ℕ) (tag : Tag) (value : List ℕ) → live_count m ≤ live_count (step m worker (Write tag value)).map
write_lives m worker tag value = omega (arith, write_same m value (held_at m (tag_place worker tag)))

fix_same : (m : RecordMap) (fixed : Bool) (id : Option ℕ) → live_count (fix_step m fixed id).map ≡ live_count m
fix_same m fixed None = refl
fix_same m fixed (Some id) = change_lives m id (λ r. record { value = r.value; fixed = fixed })

pub fix_lives : (m : RecordMap) (worker : ℕ) (name : NameId) → live_count m ≤ live_count (step m worker (Fix name)).map
fix_lives m worker name = omega (arith, fix_same m true (id_of m name.0))

pub loose_lives : (m : RecordMap) (worker : ℕ) (name : NameId) → live_count m ≤ live_count (step m worker (Loose name)).map
loose_lives m worker name = omega (arith, fix_same m false (id_of m name.0))

-- at most one record ends where one loses its last name or tag
unused_less : (m : RecordMap) (id : ℕ) → live_count m ≤ live_count (without_unused m id) + 1
unused_less m id =
    cond_both (is_used m id) _ _ (λ (n : RecordMap). live_count m ≤ live_count n + 1) (λ e. omega arith)
    (λ e. ⊎_elim
    (λ below. set_less below)
    (λ past. omega (arith, ap (count_by is_some) (set_past m.records id None past)))
    (cases_lt id (length m.records)))
  where
    one : (b : Bool) → cond b 1 0 ≤ 1
    one true = omega arith
    one false = omega arith

    set_less : id < length m.records → count_by is_some m.records ≤ count_by is_some (set m.records id None) + 1
    set_less below = omega (arith, count-set is_some m.records id None None below, one (is_some (get_or m.records id None)))

pub del_less : (m : RecordMap) (name : ℕ) (id : Option ℕ) → live_count m ≤ live_count (del_step m name id).map + 1
del_less m name None = omega arith
del_less m name (Some id) = unused_less (with_name m name None) id

-- none ends where the record lives on
pub del_kept : (m : RecordMap) (name : ℕ) (id : Option ℕ) → ((i : ℕ) → id ≡ Some i → is_live (del_step m name id).map i ≡ true) →
    live_count m ≤ live_count (del_step m name id).map
del_kept m name None lives = omega arith
del_kept m name (Some id) lives =
    let n = with_name m name None in
    by (is_used n id) refl (lives id refl)
  where
    gone : (rs : List (Option Record)) → is_some (get_or (set rs id None) id None) ≡ false
    gone rs =
        ⊎_elim
        (λ below. ap is_some (get_or-set_same rs id None None below))
        (λ past. ap (λ xs. is_some (get_or xs id None)) (set_past rs id None past) ∙ ap is_some (get_or_past rs id None past))
        (cases_lt id (length rs))

    by : (b : Bool) → is_used (with_name m name None) id ≡ b → is_live (without_unused (with_name m name None) id) id ≡ true →
        live_count m ≤ live_count (without_unused (with_name m name None) id)
    by true is there = omega (arith, ap {B = ℕ} (λ (b : Bool). live_count (cond b (with_name m name None) (record m { names = set m.names name None; records = set m.records id None }))) is)
    by false is there =
        absurd (both_ways _ (ap (λ (b : Bool). is_live (cond b (with_name m name None) (record m { names = set m.names name None; records = set m.records id None })) id) is ∙ gone m.records) there)

-- Histories that ended a record

or_assoc : (a b c : Bool) → (a || b || c) ≡ (a || (b || c))
or_assoc true b c = refl
or_assoc false b c = refl

pub has_ended-append : (m : RecordMap) (h k : List (ℕ × RecordEntry)) → has_ended m (h ++ k) ≡ (has_ended m h || has_ended (map_after m h) k)
has_ended-append m [] k = refl
has_ended-append m (e ∷ h) k =
    ap (λ b. ends_record m e || b) (has_ended-append (map_next m e) h k)
    ∙ sym (or_assoc (ends_record m e) (has_ended (map_next m e) h) (has_ended (map_after (map_next m e) h) k))

or_left : (a b : Bool) → a ≡ true → (a || b) ≡ true
or_left true b is = refl
or_left false b is = absurd (cc)

or_right : (a b : Bool) → b ≡ true → (a || b) ≡ true
or_right true b is = refl
or_right false b is = is

pub ended_before : (m : RecordMap) (h k : List (ℕ × RecordEntry)) → has_ended m h ≡ true → has_ended m (h ++ k) ≡ true
ended_before m h k is = has_ended-append m h k ∙ or_left (has_ended m h) _ is

pub ended_last : (m : RecordMap) (h : List (ℕ × RecordEntry)) (e : ℕ × RecordEntry) → ends_record (map_after m h) e ≡ true → has_ended m (h ++ e ∷ []) ≡ true
ended_last m h e is = has_ended-append m h (e ∷ []) ∙ or_right (has_ended m h) _ (or_left (ends_record (map_after m h) e) false is)

-- a `drop` with `ok` after which fewer records live
pub ends : (m : RecordMap) (e : ℕ × RecordEntry) → drops e ≡ true → live_count (map_next m e) < live_count m → ends_record m e ≡ true
ends m e drop fewer = ap₂ (λ a b. a && b) drop (lt-ltb (live_count (map_next m e)) (live_count m) fewer)

-- a history that ended a record has a `drop` with `ok`
pub ended_drops : (m : RecordMap) (h : List (ℕ × RecordEntry)) → has_ended m h ≡ true → has_dropped h ≡ true
ended_drops m [] is = is
ended_drops m (e ∷ h) is = by (drops e) refl is (ended_drops (map_next m e) h)
  where
    by : (b : Bool) → drops e ≡ b → (ends_record m e || has_ended (map_next m e) h) ≡ true → (has_ended (map_next m e) h ≡ true → has_dropped h ≡ true) →
        (drops e || has_dropped h) ≡ true
    by true drop is rest = ap (λ b. b || has_dropped h) drop
    by false drop is rest =
        ap (λ b. b || has_dropped h) drop
        ∙ rest (sym (ap (λ b. (b && nat_lt (live_count (map_next m e)) (live_count m)) || has_ended (map_next m e) h) drop) ∙ is)

-- such histories that go on
pub any_on : (p : ℕ × RecordEntry → Bool) (h k : List (ℕ × RecordEntry)) → list_any p h ≡ true → list_any p (h ++ k) ≡ true
any_on p h k is = list_any-append p h k ∙ or_left (list_any p h) (list_any p k) is
