-- The changes of a record map keep it valid.
use Rattle.std.proofs.Common.{◌≡◌, ◌≢◌, ℕ, suc, ◌+◌, ◌<◌, ◌≤◌, nat_lt, Bool, true, false, cond, List, [], ◌∷◌, length, get_or, set, count_by, option_map, Option, Some, None, is_some, ◌⊎◌, inl, inr, ⊎_elim, sym, ◌∙◌, ap, refl, subst, arith}
use Rattle.std.proofs.lemmas.Bool.{cases_lt, cases_eq, cases_Bool, both_ways, lt-ltb, ltb-true, eqb-true, ne_eqb, eq-eqb}
use Rattle.std.proofs.lemmas.List.{get_or-set_same, get_or-set_other, get_or_append_left, get_or_past, length-append, set_past}
use Rattle.std.proofs.lemmas.List.Sums.{get_or-le-sum_by}
use Rattle.std.proofs.Math.Seq.{get_or-append_seam}
use Rattle.kmem_model.proofs.CacheLists.{count-set, count-cons, reads_within, read_after_clear, read_after_write, get_or-set_none}
use Rattle.kmem_model.specs.CacheOrder.{is_the}
use Rattle.kmem_model.specs.Records.{Record, RecordMap, id_of, held_at, record_at, is_live, name_count, tag_count, is_used, with_record, changed_at, with_name, with_tag, without_unused, IsValid}

-- Reads and counts

-- what is read is inside the list
pub some_within : {X : Type 0} (xs : List (Option X)) (i : ℕ) → is_some (get_or xs i None) ≡ true → i < length xs
some_within xs i there = reads_within xs i None is_some refl there

pub read_within : {X : Type 0} (xs : List (Option X)) (i : ℕ) (x : X) → get_or xs i None ≡ Some x → i < length xs
read_within xs i x e = some_within xs i (ap is_some e)

pub is_the_same : (x : Option ℕ) (id : ℕ) → x ≡ Some id → is_the x id ≡ true
is_the_same x id e = ap (λ y. is_the y id) e ∙ eq-eqb id id refl

pub is_the_some : (x : Option ℕ) (id : ℕ) → is_the x id ≡ true → x ≡ Some id
is_the_some None id e = absurd (both_ways false refl e)
is_the_some (Some y) id e = ap Some (eqb-true y id e)

-- the count of what leads to an id, after one place is written
pub count_after : (xs : List (Option ℕ)) (i : ℕ) (y : Option ℕ) (id : ℕ) → i < length xs → count_by (λ x. is_the x id) (set xs i y) + cond (is_the (get_or xs i None) id) 1 0 ≡ count_by (λ x. is_the x id) xs + cond (is_the y id) 1 0
count_after xs i y id below = count-set (λ x. is_the x id) xs i y None below

-- what leads to an id counts
pub leads_counts : (xs : List (Option ℕ)) (i id : ℕ) → get_or xs i None ≡ Some id → 0 < count_by (λ x. is_the x id) xs
leads_counts xs i id e =
    let one : ◌≡◌ {A = ℕ} (cond (is_the (get_or xs i None) id) 1 0) 1 = ap {B = ℕ} (λ b. cond b 1 0) (is_the_same (get_or xs i None) id e) in
    omega (arith, one, get_or-le-sum_by (λ x. cond (is_the x id) 1 0) xs i None (read_within xs i id e))

-- where nothing leads to an id, the count is 0
pub none_lead : (xs : List (Option ℕ)) (id : ℕ) → ((i : ℕ) → get_or xs i None ≢ Some id) → count_by (λ x. is_the x id) xs ≡ 0
none_lead [] id none = refl
none_lead (x ∷ xs) id none =
    let head : ◌≡◌ {A = ℕ} (cond (is_the x id) 1 0) 0 = ap {B = ℕ} (λ b. cond b 1 0) (⊎_elim (λ yes. absurd (none 0 (is_the_some x id yes))) (λ no. no) (cases_Bool (is_the x id))) in
    omega (arith, count_cons x xs, head, none_lead xs id (λ i. none (suc i)))
  where
    count_cons : (x : Option ℕ) (xs : List (Option ℕ)) → count_by (λ y. is_the y id) (x ∷ xs) ≡ cond (is_the x id) 1 0 + count_by (λ y. is_the y id) xs
    count_cons x xs = count-cons (λ y. is_the y id) x xs

-- A change of a record that leaves names and tags

pub live_changed : (m : RecordMap) (id : ℕ) (change : Record → Record) (j : ℕ) → is_live (changed_at m id change) j ≡ is_live m j
live_changed m id change j =
    ⊎_elim
    (λ same. ap (λ k. is_live (changed_at m id change) k) same ∙ (here (cases_lt id (length m.records)) ∙ ap (λ k. is_live m k) (sym same)))
    (λ other. ap is_some (get_or-set_other m.records id j (option_map change (record_at m id)) None other))
    (cases_eq j id)
  where
    kept : (x : Option Record) → is_some (option_map change x) ≡ is_some x
    kept None = refl
    kept (Some x) = refl

    here : (id < length m.records) ⊎ (length m.records ≤ id) → is_live (changed_at m id change) id ≡ is_live m id
    here (inl below) = ap is_some (get_or-set_same m.records id (option_map change (record_at m id)) None below) ∙ kept (record_at m id)
    here (inr past) = ap (λ rs. is_some (get_or rs id None)) (set_past m.records id (option_map change (record_at m id)) past)

pub valid_changed : (m : RecordMap) (id : ℕ) (change : Record → Record) → IsValid m → IsValid (changed_at m id change)
valid_changed m id change v =
    record {
      named = λ name j e. live_changed m id change j ∙ v.named name j e;
      held = λ place j e. live_changed m id change j ∙ v.held place j e;
      used = λ j live. v.used j (sym (live_changed m id change j) ∙ live);
      few = v.few;
    }

-- A further record under a name that was absent

-- an id that lives was given before
pub live_within : (m : RecordMap) (id : ℕ) → is_live m id ≡ true → id < length m.records
live_within m id live = some_within m.records id live

pub live_before : (m : RecordMap) (value : List ℕ) (id : ℕ) → id < length m.records → is_live (with_record m value) id ≡ is_live m id
live_before m value id below = ap is_some (get_or_append_left m.records _ None id below)

pub live_fresh : (m : RecordMap) (value : List ℕ) → is_live (with_record m value) (length m.records) ≡ true
live_fresh m value = ap is_some (get_or-append_seam m.records (Some (record { value = value; fixed = false })) [] None)

-- no record but those before and the fresh one
live_after : (m : RecordMap) (value : List ℕ) (id : ℕ) → is_live (with_record m value) id ≡ true → (id ≡ length m.records) ⊎ (is_live m id ≡ true)
live_after m value id live =
    ⊎_elim
    (λ below. inr (sym (live_before m value id below) ∙ live))
    (λ past. ⊎_elim inl (λ other. absurd (other (only past other))) (cases_eq id (length m.records)))
    (cases_lt id (length m.records))
  where
    only : length m.records ≤ id → id ≢ length m.records → id ≡ length m.records
    only past other = absurd (both_ways (is_live (with_record m value) id) (ap is_some (get_or_past (with_record m value).records id None (omega (arith, past, other, length-append m.records (Some (record { value = value; fixed = false }) ∷ []))))) live)

-- names and tags lead to ids that were given before
pub named_before : (m : RecordMap) (name id : ℕ) → IsValid m → id_of m name ≡ Some id → id < length m.records
named_before m name id v e = live_within m id (v.named name id e)

pub held_before : (m : RecordMap) (place id : ℕ) → IsValid m → held_at m place ≡ Some id → id < length m.records
held_before m place id v e = live_within m id (v.held place id e)

-- where a place was empty, the count of what leads to another id stays
count_elsewhere : (xs : List (Option ℕ)) (i y id : ℕ) → i < length xs → get_or xs i None ≡ None → id ≢ y → count_by (λ x. is_the x id) (set xs i (Some y)) ≡ count_by (λ x. is_the x id) xs
count_elsewhere xs i y id below empty other =
    let was : ◌≡◌ {A = ℕ} (cond (is_the (get_or xs i None) id) 1 0) 0 = ap {B = ℕ} (λ x. cond (is_the x id) 1 0) empty in
    let now : ◌≡◌ {A = ℕ} (cond (is_the (Some y) id) 1 0) 0 = ap {B = ℕ} (λ b. cond b 1 0) (ne_eqb y id (λ same. other (sym same))) in
    omega (arith, was, now, count_after xs i (Some y) id below)

-- and it grows by one for that id
pub count_here : (xs : List (Option ℕ)) (i y : ℕ) → i < length xs → get_or xs i None ≡ None → count_by (λ x. is_the x y) (set xs i (Some y)) ≡ count_by (λ x. is_the x y) xs + 1
count_here xs i y below empty =
    let was : ◌≡◌ {A = ℕ} (cond (is_the (get_or xs i None) y) 1 0) 0 = ap {B = ℕ} (λ x. cond (is_the x y) 1 0) empty in
    let now : ◌≡◌ {A = ℕ} (cond (is_the (Some y) y) 1 0) 1 = ap {B = ℕ} (λ b. cond b 1 0) (eq-eqb y y refl) in
    omega (arith, was, now, count_after xs i (Some y) y below)

-- some count above 0 makes a record used
pub used_from : (names tags : ℕ) → 0 < names + tags → nat_lt 0 (names + tags) ≡ true
used_from names tags more = lt-ltb 0 (names + tags) more

pub valid_new : (m : RecordMap) (name : ℕ) (value : List ℕ) → name < length m.names → id_of m name ≡ None → IsValid m → IsValid (with_name (with_record m value) name (Some (length m.records)))
valid_new m name value below absent v =
    record {
      named = λ other id e. ⊎_elim
          (λ h. ap (λ k. is_live (with_record m value) k) (sym h.1) ∙ live_fresh m value)
          (λ h. live_before m value id (named_before m other id v h.1) ∙ v.named other id h.1)
          (read_after_write m.names name other id (length m.records) e);
      held = λ place id e. live_before m value id (held_before m place id v e) ∙ v.held place id e;
      used = λ id live. ⊎_elim (λ same. used_fresh id same) (λ old. used_before id old) (live_after m value id live);
      few = λ id. ⊎_elim (λ same. few_fresh id same) (λ other. few_before id other) (cases_eq id (length m.records));
    }
  where
    fresh : count_by (λ x. is_the x (length m.records)) m.names ≡ 0
    fresh = none_lead m.names (length m.records) (λ i e. omega (arith, named_before m i (length m.records) v e))

    used_fresh : (id : ℕ) → id ≡ length m.records → is_used (with_name (with_record m value) name (Some (length m.records))) id ≡ true
    used_fresh id same = ap (λ k. is_used (with_name (with_record m value) name (Some (length m.records))) k) same ∙ lt-ltb 0 _ (omega (arith, count_here m.names name (length m.records) below absent))

    used_before : (id : ℕ) → is_live m id ≡ true → is_used (with_name (with_record m value) name (Some (length m.records))) id ≡ true
    used_before id live = ap {B = Bool} (λ n. nat_lt 0 (n + tag_count m id)) (count_elsewhere m.names name (length m.records) id below absent (λ same. omega (arith, live_within m id live, same))) ∙ v.used id live

    few_fresh : (id : ℕ) → id ≡ length m.records → count_by (λ x. is_the x id) (set m.names name (Some (length m.records))) ≤ 8
    few_fresh id same = subst (λ k. count_by (λ x. is_the x k) (set m.names name (Some (length m.records))) ≤ 8) (sym same) (omega (arith, fresh, count_here m.names name (length m.records) below absent))

    few_before : (id : ℕ) → id ≢ length m.records → count_by (λ x. is_the x id) (set m.names name (Some (length m.records))) ≤ 8
    few_before id other = subst (λ n. n ≤ 8) (sym (count_elsewhere m.names name (length m.records) id below absent other)) (v.few id)

-- A further name, and a tag, for a record that lives

pub valid_linked : (m : RecordMap) (other id : ℕ) → other < length m.names → id_of m other ≡ None → is_live m id ≡ true → name_count m id ≢ 8 → IsValid m → IsValid (with_name m other (Some id))
valid_linked m other id below absent live room v =
    record {
      named = λ name j e. ⊎_elim
          (λ h. ap (λ k. is_live m k) (sym h.1) ∙ live)
          (λ h. v.named name j h.1)
          (read_after_write m.names other name j id e);
      held = v.held;
      used = λ j alive. used_still j alive;
      few = λ j. ⊎_elim (λ same. few_here j same) (λ apart. subst (λ n. n ≤ 8) (sym (count_elsewhere m.names other id j below absent apart)) (v.few j)) (cases_eq j id);
    }
  where
    grown : (j : ℕ) → count_by (λ x. is_the x j) m.names ≤ count_by (λ x. is_the x j) (set m.names other (Some id))
    grown j = ⊎_elim
        (λ same. subst (λ k. count_by (λ x. is_the x k) m.names ≤ count_by (λ x. is_the x k) (set m.names other (Some id))) (sym same) (omega (arith, count_here m.names other id below absent)))
        (λ apart. omega (arith, count_elsewhere m.names other id j below absent apart))
        (cases_eq j id)

    used_still : (j : ℕ) → is_live m j ≡ true → is_used (with_name m other (Some id)) j ≡ true
    used_still j alive = used_from _ _ (omega (arith, ltb-true 0 (name_count m j + tag_count m j) (v.used j alive), grown j))

    few_here : (j : ℕ) → j ≡ id → count_by (λ x. is_the x j) (set m.names other (Some id)) ≤ 8
    few_here j same = subst (λ k. count_by (λ x. is_the x k) (set m.names other (Some id)) ≤ 8) (sym same) (omega (arith, count_here m.names other id below absent, v.few id, room))

pub valid_tagged : (m : RecordMap) (place id : ℕ) → place < length m.tags → held_at m place ≡ None → is_live m id ≡ true → IsValid m → IsValid (with_tag m place (Some id))
valid_tagged m place id below empty live v =
    record {
      named = v.named;
      held = λ other j e. ⊎_elim
          (λ h. ap (λ k. is_live m k) (sym h.1) ∙ live)
          (λ h. v.held other j h.1)
          (read_after_write m.tags place other j id e);
      used = λ j alive. used_still j alive;
      few = v.few;
    }
  where
    grown : (j : ℕ) → count_by (λ x. is_the x j) m.tags ≤ count_by (λ x. is_the x j) (set m.tags place (Some id))
    grown j = ⊎_elim
        (λ same. subst (λ k. count_by (λ x. is_the x k) m.tags ≤ count_by (λ x. is_the x k) (set m.tags place (Some id))) (sym same) (omega (arith, count_here m.tags place id below empty)))
        (λ apart. omega (arith, count_elsewhere m.tags place id j below empty apart))
        (cases_eq j id)

    used_still : (j : ℕ) → is_live m j ≡ true → is_used (with_tag m place (Some id)) j ≡ true
    used_still j alive = used_from _ _ (omega (arith, ltb-true 0 (name_count m j + tag_count m j) (v.used j alive), grown j))

-- A name, or a tag, that is taken out

-- valid but for this id, which may have neither a name nor a tag
pub record IsValidBut (id : ℕ) (m : RecordMap) : Type 0 where
  pub named : (name j : ℕ) → id_of m name ≡ Some j → is_live m j ≡ true
  pub held : (place j : ℕ) → held_at m place ≡ Some j → is_live m j ≡ true
  pub used : (j : ℕ) → j ≢ id → is_live m j ≡ true → is_used m j ≡ true
  pub few : (j : ℕ) → name_count m j ≤ 8

-- a count that a cleared place led to another id than this
count_kept : (xs : List (Option ℕ)) (i y id : ℕ) → get_or xs i None ≡ Some y → id ≢ y → count_by (λ x. is_the x id) (set xs i None) ≡ count_by (λ x. is_the x id) xs
count_kept xs i y id e other =
    let was : ◌≡◌ {A = ℕ} (cond (is_the (get_or xs i None) id) 1 0) 0 = ap {B = ℕ} (λ b. cond b 1 0) (ap (λ x. is_the x id) e ∙ ne_eqb y id (λ same. other (sym same))) in
    omega (arith, was, count_after xs i None id (read_within xs i y e))

pub count_cleared : (xs : List (Option ℕ)) (i y : ℕ) → get_or xs i None ≡ Some y → count_by (λ x. is_the x y) (set xs i None) + 1 ≡ count_by (λ x. is_the x y) xs
count_cleared xs i y e =
    let was : ◌≡◌ {A = ℕ} (cond (is_the (get_or xs i None) y) 1 0) 1 = ap {B = ℕ} (λ b. cond b 1 0) (is_the_same (get_or xs i None) y e) in
    omega (arith, was, count_after xs i None y (read_within xs i y e))

-- no count grows when a place is cleared
count_less : (xs : List (Option ℕ)) (i y j : ℕ) → get_or xs i None ≡ Some y → count_by (λ x. is_the x j) (set xs i None) ≤ count_by (λ x. is_the x j) xs
count_less xs i y j e = ⊎_elim
    (λ same. subst (λ k. count_by (λ x. is_the x k) (set xs i None) ≤ count_by (λ x. is_the x k) xs) (sym same) (omega (arith, count_cleared xs i y e)))
    (λ apart. omega (arith, count_kept xs i y j e apart))
    (cases_eq j y)

unnamed_but : (m : RecordMap) (name id : ℕ) → id_of m name ≡ Some id → IsValid m → IsValidBut id (with_name m name None)
unnamed_but m name id e v =
    record {
      named = λ other j there. v.named other j (read_after_clear m.names name other j there).1;
      held = v.held;
      used = λ j apart live. ap {B = Bool} (λ n. nat_lt 0 (n + tag_count m j)) (count_kept m.names name id j e apart) ∙ v.used j live;
      few = λ j. omega (arith, v.few j, count_less m.names name id j e);
    }

untagged_but : (m : RecordMap) (place id : ℕ) → held_at m place ≡ Some id → IsValid m → IsValidBut id (with_tag m place None)
untagged_but m place id e v =
    record {
      named = v.named;
      held = λ other j there. v.held other j (read_after_clear m.tags place other j there).1;
      used = λ j apart live. ap {B = Bool} (λ n. nat_lt 0 (name_count m j + n)) (count_kept m.tags place id j e apart) ∙ v.used j live;
      few = v.few;
    }

-- taken out where it is unused, the rest is valid
pub valid_pruned : (m : RecordMap) (id : ℕ) → IsValidBut id m → IsValid (without_unused m id)
valid_pruned m id v = by_use (is_used m id) refl
  where
    ended : is_used m id ≡ false → IsValid (record m { records = set m.records id None })
    ended unused =
        record {
          named = λ name j e. still j (v.named name j e) (λ same. absurd (both_ways (is_used m id) unused (used_from _ _ (omega (arith, leads_counts m.names name id (e ∙ ap Some same))))));
          held = λ place j e. still j (v.held place j e) (λ same. absurd (both_ways (is_used m id) unused (used_from _ _ (omega (arith, leads_counts m.tags place id (e ∙ ap Some same))))));
          used = λ j live. ⊎_elim
              (λ same. absurd (both_ways (is_some (get_or (set m.records id None) id None)) (ap is_some (get_or-set_none m.records id)) (ap (λ k. is_some (get_or (set m.records id None) k None)) (sym same) ∙ live)))
              (λ apart. v.used j apart (ap is_some (sym (get_or-set_other m.records id j None None apart)) ∙ live))
              (cases_eq j id);
          few = v.few;
        }
      where
        still : (j : ℕ) → is_live m j ≡ true → (j ≢ id) → is_some (get_or (set m.records id None) j None) ≡ true
        still j live apart = ap is_some (get_or-set_other m.records id j None None apart) ∙ live

    by_use : (b : Bool) → is_used m id ≡ b → IsValid (cond b m (record m { records = set m.records id None }))
    by_use true used =
        record {
          named = v.named;
          held = v.held;
          used = λ j live. ⊎_elim (λ same. ap (λ k. is_used m k) same ∙ used) (λ apart. v.used j apart live) (cases_eq j id);
          few = v.few;
        }
    by_use false unused = ended unused

pub valid_unnamed : (m : RecordMap) (name id : ℕ) → id_of m name ≡ Some id → IsValid m → IsValid (without_unused (with_name m name None) id)
valid_unnamed m name id e v = valid_pruned (with_name m name None) id (unnamed_but m name id e v)

pub valid_untagged : (m : RecordMap) (place id : ℕ) → held_at m place ≡ Some id → IsValid m → IsValid (without_unused (with_tag m place None) id)
valid_untagged m place id e v = valid_pruned (with_tag m place None) id (untagged_but m place id e v)
