-- Which answers can come after a history.
use Rattle.std.proofs.Common.{◌≡◌, ◌≢◌, ℕ, ◌+◌, ◌<◌, ◌≤◌, nat_lt, Bool, true, false, cond, List, length, get_or, map, Option, Some, None, is_some, is_none, option_map, option_and_then, ⊎_elim, sym, ap, ◌∙◌, refl, subst, arith}
use Rattle.std.specs.Option.{option_map_or}
use Rattle.std.specs.List.{list_any}
use Rattle.std.proofs.lemmas.Bool.{both_ways, cases_eq, cases_lt, ltb-true}
use Rattle.kmem_buf.specs.Answers.{Flags, flagged}
use Rattle.kmem_buf.specs.declared.client.Verdict.{Verdict}
use Rattle.kmem_buf.specs.declared.client.Verdict.TheVariants as verdict
use Rattle.kmem_answers.specs.Words.{said_of}
use Rattle.kmem_model.specs.declared.cache_entry.Said.TheVariants.{Yes, No, Later, DontNeed, DontKnow}
use Rattle.kmem_model.specs.Records.{Record, RecordMap, no_records, is_live}
use Rattle.kmem_model.specs.Heap.{Object, HeapState, StandsFor, object_at, record_of, is_leftover, address_in, IsTiedObject}
use Rattle.kmem_model.specs.Says.{answer_about, says}
use Rattle.kmem_model.specs.History.{map_after, has_held, has_fixed}
use Rattle.kmem_model.specs.OneRun.{is_fixed}
use Rattle.kmem_model.specs.declared.record_entry.RecordEntry.{RecordEntry}
use Rattle.kmem_model.proofs.CacheLists.{get_or-map_default}
use Rattle.kmem_model.proofs.Heaps.{leads_somewhere}
use Rattle.kmem_model.proofs.HistoryTags.{held_from, fixed_from, none_held, none_fixed}
use Rattle.hist_lock.specs.History.{IsFront}
use Rattle.record_table.specs.Ended.{drops, has_ended}
use Rattle.record_table.specs.Tables.{TableHome, TableView, home_of, IsStandingFor}
use Rattle.record_table.specs.Asks.{IsDueAfter, AreFlagsDue}
use Rattle.record_table.proofs.Lefts.{left_there}
use Rattle.record_table.proofs.Lives.{any_on, ended_drops}

-- What an answer says of its object

later_is : (x y z : Bool) → Later ≡ cond x DontNeed (cond y No (cond z Later Yes)) → z ≡ true
later_is true y z e = absurd (cc)
later_is false true z e = absurd (cc)
later_is false false true e = refl
later_is false false false e = absurd (cc)

fixed_there : (x y z : Bool) → No ≡ cond x DontNeed (cond y No (cond z Later Yes)) → (x ≡ false) × (y ≡ true)
fixed_there true y z e = absurd (cc)
fixed_there false true z e = (refl, refl)
fixed_there false false true e = absurd (cc)
fixed_there false false false e = absurd (cc)

left_is : (x y z : Bool) → DontNeed ≡ cond x DontNeed (cond y No (cond z Later Yes)) → x ≡ true
left_is true y z e = refl
left_is false true z e = absurd (cc)
left_is false false true e = absurd (cc)
left_is false false false e = absurd (cc)

-- of an object that is there something is known
known_of : (x y z : Bool) → DontKnow ≡ cond x DontNeed (cond y No (cond z Later Yes)) → ⊥
known_of true y z e = cc
known_of false true z e = cc
known_of false false true e = cc
known_of false false false e = cc

pub known_there : (h : HeapState) (from : ℕ) (v : Verdict) → is_some (object_at h from) ≡ true → said_of v ≡ says h true from → v ≡ verdict.DontKnow → ⊥
known_there h from v there right is = by (object_at h from) refl there
  where
    by : (x : Option Object) → object_at h from ≡ x → is_some x ≡ true → ⊥
    by None e f = both_ways false refl f
    by (Some o) e f = known_of (is_none o.value) o.fixed (nat_lt 0 o.holds) (sym (ap said_of is) ∙ (right ∙ ap answer_about e))

-- What leads to an address

led_in : (addresses : List ℕ) (xs ys : List (Option ℕ)) → ys ≡ map (option_map (address_in addresses)) xs → (i b : ℕ) → get_or ys i None ≡ Some b →
    (id : ℕ) × (get_or xs i None ≡ Some id) × (address_in addresses id ≡ b)
led_in addresses xs ys same i b there =
    by (get_or xs i None) refl (sym (ap (λ zs. get_or zs i None) same ∙ get_or-map_default (option_map (address_in addresses)) xs i None) ∙ there)
  where
    by : (x : Option ℕ) → get_or xs i None ≡ x → option_map (address_in addresses) x ≡ Some b → (id : ℕ) × (get_or xs i None ≡ Some id) × (address_in addresses id ≡ b)
    by None is e = absurd (cc)
    by (Some id) is e = (id, is, cc)

-- an object that isn't a leftover is the one of some id that lives
lives_there : (m : RecordMap) (addresses : List ℕ) (h : HeapState) (b : ℕ) (o : Object) → StandsFor m addresses h → object_at h b ≡ Some o → is_none o.value ≡ false →
    (id : ℕ) × (is_live m id ≡ true) × (address_in addresses id ≡ b)
lives_there m addresses h b o stands at has =
    ⊎_elim
    (λ (none : length o.names + o.holds ≡ 0). absurd (both_ways _ has (ap (λ (x : Object). is_none x.value) (tied.blank none))))
    (λ (some : length o.names + o.holds ≡ 0 → ⊥). ⊎_elim
    (λ (named : 0 < length o.names).
    let at_name = leads_somewhere h.names b (subst (λ n. 0 < n) tied.once named) in
    let led = led_in addresses m.names h.names stands.paired.names at_name.0 b at_name.1 in
    (led.0, stands.valid.named at_name.0 led.0 led.1, led.2))
    (λ none_named.
    let at_tag = leads_somewhere h.tags b (subst (λ n. 0 < n) tied.holds (some_held some none_named)) in
    let led = led_in addresses m.tags h.tags stands.paired.tags at_tag.0 b at_tag.1 in
    (led.0, stands.valid.held at_tag.0 led.0 led.1, led.2))
    (cases_lt 0 (length o.names)))
    (cases_eq (length o.names + o.holds) 0)
  where
    tied : IsTiedObject h b o
    tied = stands.paired.tied.objects b o at

    some_held : (length o.names + o.holds ≡ 0 → ⊥) → length o.names ≤ 0 → 0 < o.holds
    some_held some none_named = omega (arith, some, none_named)

fixed_is : (m : RecordMap) (addresses : List ℕ) (h : HeapState) (b : ℕ) (o : Object) (id : ℕ) → StandsFor m addresses h → object_at h b ≡ Some o → is_none o.value ≡ false →
    is_live m id ≡ true → address_in addresses id ≡ b → o.fixed ≡ is_fixed m id
fixed_is m addresses h b o id stands at has live here =
    by o.value refl has
    ∙ ap (λ x. option_map_or (λ (r : Record). r.fixed) x false) (sym (ap (λ n. option_and_then record_of (object_at h n)) here ∙ ap (option_and_then record_of) at) ∙ stands.paired.records id live)
  where
    by : (v : Option (List ℕ)) → o.value ≡ v → is_none v ≡ false → o.fixed ≡ option_map_or (λ (r : Record). r.fixed) (record_of o) false
    by None e there = absurd (cc)
    by (Some v) e there = ap (λ (x : Option (List ℕ)). option_map_or (λ (r : Record). r.fixed) (record_of (record o { value = x })) false) (sym e)

module _ (t : TableView) (h : List (ℕ × RecordEntry)) (from : ℕ) (it : IsStandingFor t h) where
  abbrev start : RecordMap
  start = no_records t.names t.workers

  later_due : (o : Object) → object_at t.heap.heap from ≡ Some o → Later ≡ answer_about (Some o) → has_held h ≡ true
  later_due o at e =
      let held : 0 < o.holds = ltb-true 0 o.holds (later_is (is_none o.value) o.fixed (nat_lt 0 o.holds) e) in
      let tied = it.stands.paired.tied.objects from o at in
      let tag = leads_somewhere t.heap.heap.tags from (subst (λ n. 0 < n) tied.holds held) in
      let led = led_in it.addresses (map_after start h).tags t.heap.heap.tags it.stands.paired.tags tag.0 from tag.1 in
      ⊎_elim (λ before. absurd (both_ways _ (none_held t.names t.workers tag.0) before)) (λ is. is) (held_from start h tag.0 it.legal (ap is_some led.1))

  never_due : (o : Object) → object_at t.heap.heap from ≡ Some o → No ≡ answer_about (Some o) → has_fixed h ≡ true
  never_due o at e =
      let is = fixed_there (is_none o.value) o.fixed (nat_lt 0 o.holds) e in
      let id = lives_there (map_after start h) it.addresses t.heap.heap from o it.stands at is.0 in
      let fixed = sym (fixed_is (map_after start h) it.addresses t.heap.heap from o id.0 it.stands at is.0 id.1 id.2) ∙ is.1 in
      ⊎_elim (λ before. absurd (both_ways _ (none_fixed t.names t.workers id.0) before)) (λ is. is) (fixed_from start h id.0 it.legal fixed)

  unneeded_due : (o : Object) → object_at t.heap.heap from ≡ Some o → DontNeed ≡ answer_about (Some o) → has_ended start h ≡ true
  unneeded_due o at e = it.left (left_there t.heap.heap from (ap is_leftover at ∙ left_is (is_none o.value) o.fixed (nat_lt 0 o.holds) e))

  -- an answer that is right is due
  pub due_of : (v : Verdict) → said_of v ≡ says t.heap.heap true from → IsDueAfter (home_of t) v h
  due_of v right = by_object (object_at t.heap.heap from) refl v right
    where
      by_object : (x : Option Object) → object_at t.heap.heap from ≡ x → (v : Verdict) → said_of v ≡ answer_about (object_at t.heap.heap from) → IsDueAfter (home_of t) v h
      by_object None at verdict.Yes e = tt
      by_object None at verdict.No e = absurd (let f : No ≡ DontKnow = e ∙ ap answer_about at in differ_no f)
        where
          differ_no : No ≡ DontKnow → ⊥
          differ_no f = cc
      by_object None at verdict.Later e = absurd (let f : Later ≡ DontKnow = e ∙ ap answer_about at in differ_later f)
        where
          differ_later : Later ≡ DontKnow → ⊥
          differ_later f = cc
      by_object None at verdict.DontNeed e = absurd (let f : DontNeed ≡ DontKnow = e ∙ ap answer_about at in differ_need f)
        where
          differ_need : DontNeed ≡ DontKnow → ⊥
          differ_need f = cc
      by_object None at verdict.DontKnow e = tt
      by_object (Some o) at verdict.Yes e = tt
      by_object (Some o) at verdict.No e = never_due o at (e ∙ ap answer_about at)
      by_object (Some o) at verdict.Later e = later_due o at (e ∙ ap answer_about at)
      by_object (Some o) at verdict.DontNeed e = unneeded_due o at (e ∙ ap answer_about at)
      by_object (Some o) at verdict.DontKnow e = tt

-- Flags

pub due_all : (home : TableHome) (h : List (ℕ × RecordEntry)) (v : Verdict) → (v ≢ verdict.DontKnow → IsDueAfter home v h) → IsDueAfter home v h
due_all home h verdict.Yes due = tt
due_all home h verdict.No due = due (λ e. cc)
due_all home h verdict.Later due = due (λ e. cc)
due_all home h verdict.DontNeed due = due (λ e. cc)
due_all home h verdict.DontKnow due = tt

on_front : (p : ℕ × RecordEntry → Bool) (h k : List (ℕ × RecordEntry)) → IsFront h k → list_any p h ≡ true → list_any p k ≡ true
on_front p h k front is = subst (λ xs. list_any p xs ≡ true) front.1 (any_on p h front.0 is)

pub flags_on : (flags : Flags) (h k : List (ℕ × RecordEntry)) → IsFront h k → AreFlagsDue flags h → AreFlagsDue flags k
flags_on flags h k front due =
    record {
      later = λ e. on_front _ h k front (due.later e);
      never = λ e. on_front _ h k front (due.never e);
      unneeded = λ e. on_front drops h k front (due.unneeded e);
    }

pub flags_next : (home : TableHome) (v : Verdict) (flags : Flags) (h : List (ℕ × RecordEntry)) → AreFlagsDue flags h → IsDueAfter home v h → AreFlagsDue (flagged v flags) h
flags_next home verdict.Yes flags h due is = record { later = due.later; never = due.never; unneeded = due.unneeded }
flags_next home verdict.No flags h due is = record { later = due.later; never = λ _. is; unneeded = due.unneeded }
flags_next home verdict.Later flags h due is = record { later = λ _. is; never = due.never; unneeded = due.unneeded }
flags_next home verdict.DontNeed flags h due is = record { later = due.later; never = due.never; unneeded = λ _. ended_drops (no_records home.names home.workers) h is }
flags_next home verdict.DontKnow flags h due is = record { later = due.later; never = due.never; unneeded = due.unneeded }
