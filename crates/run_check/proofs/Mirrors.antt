-- The map that records stay in replies as the record map, step by step.
use Rattle.std.proofs.Common.{◌≡◌, ◌≢◌, ◌==◌, ◌⊎◌, ℕ, ◌+◌, ◌<◌, ◌≤◌, zero, suc, Bool, true, false, cond, List, [], ◌∷◌, ◌++◌, Option, Some, None, is_some, option_map, length, get_or, refl, sym, ap, ◌∙◌, subst, arith, inl, inr, length-append}
use Rattle.std.specs.Option.{option_map_or}
use Rattle.std.proofs.Math.ListN.{set, length-set, get_or-append, get_or-eq_default}
use Rattle.std.proofs.Math.Seq.{get_or-append_seam}
use Rattle.std.proofs.lemmas.Bool.{true≢false, false≢true, cases_lt}
use Rattle.std.proofs.lemmas.List.{get_or-set_same, get_or-set_other}
use Rattle.std.proofs.lemmas.Option.{none-some, same_Some}
use Rattle.kmem_text.specs.declared.command.Command.{Command}
use Rattle.kmem_text.specs.declared.command.Command.TheVariants.{Put, Get, Del, First, Next, Count, Link, Hold, Read, Write, Drop, Fix, Loose}
use Rattle.kmem_text.specs.declared.command.Reply.{Reply}
use Rattle.kmem_text.specs.declared.command.Reply.TheVariants.{New, Was, Full, Gone, Val, Absent, At, Number, Done, Taken, Many, Used, Idle}
use Rattle.kmem_model.specs.Records.{Record, RecordMap, IsValid, tag_place, id_of, held_at, record_at, is_live, is_used, value_at, name_count, least_name, with_name, with_tag, with_value, with_fixed, without_unused, present_count}
use Rattle.kmem_model.specs.RecordStep.{Step, stays, put_step, get_step, del_step, at_step, named_value, link_step, hold_step, read_step, write_step, drop_step, fix_step, step}
use Rattle.run_check.specs.PlainMaps.{step_kept, del_kept, drop_kept, fix_kept}
use Rattle.run_check.proofs.KeptMaps.{same_or_not}

-- the map with these records in place of its own
abbrev pub mirror : RecordMap → List (Option Record) → RecordMap
mirror m kr = record { names = m.names; records = kr; tags = m.tags }

-- for each record that lives there is one with its value
pub record Holds (kr mr : List (Option Record)) : Type 0 where
  pub ids : length kr ≡ length mr
  pub values : (id : ℕ) (r : Record) → get_or mr id None ≡ Some r → (s : Record) × (get_or kr id None ≡ Some s) × (s.value ≡ r.value)

-- the steps reply the same, and go on so
pub record StepsAlike (k s : Step) : Type 0 where
  pub replies : k.reply ≡ s.reply
  pub records : List (Option Record)
  pub map : k.map ≡ mirror s.map records
  pub holds : Holds records s.map.records

abbrev value_of : Option Record → List ℕ
value_of o = option_map_or (λ (r : Record). r.value) o []

is_some_of : (o : Option Record) → is_some o ≡ true → (r : Record) × (o ≡ Some r)
is_some_of None e = absurd (false≢true e)
is_some_of (Some r) e = (r, refl)

id_within : (xs : List (Option Record)) (id : ℕ) (r : Record) → get_or xs id None ≡ Some r → id < length xs
id_within xs id r e = elim (cases_lt id (length xs)) [
  | inl h ↦ h
  | inr h ↦ absurd (none-some r (sym (get_or-eq_default xs None h) ∙ e))
]

-- what lives has the same value in both
value_same : (m : RecordMap) (kr : List (Option Record)) (id : ℕ) → Holds kr m.records → is_live m id ≡ true → value_at (mirror m kr) id ≡ value_at m id
value_same m kr id h live =
    let r = is_some_of (record_at m id) live in
    let s = h.values id r.0 r.1 in
    ap value_of s.1 ∙ s.2 ∙ sym (ap value_of r.1)

-- the map stays
same_map : (m : RecordMap) (kr : List (Option Record)) (k s : Reply) → Holds kr m.records → k ≡ s → StepsAlike (stays (mirror m kr) k) (stays m s)
same_map m kr k s h e = record { replies = e; records = kr; map = refl; holds = h }

-- a record more
holds_more : (kr mr : List (Option Record)) (v : List ℕ) → Holds kr mr → Holds (kr ++ Some (record { value = v; fixed = false }) ∷ []) (mr ++ Some (record { value = v; fixed = false }) ∷ [])
holds_more kr mr v h =
    let new : Record = record { value = v; fixed = false } in
    record {
      ids = omega (arith, h.ids, length-append kr (Some new ∷ []), length-append mr (Some new ∷ []));
      values = λ id r e.
          let small = id_within (mr ++ Some new ∷ []) id r e in
          elim (cases_lt id (length mr)) [
            | inl below ↦
                let old = h.values id r (sym (get_or-append mr (Some new ∷ []) None id below) ∙ e) in
                (old.0, get_or-append kr (Some new ∷ []) None id (omega (arith, h.ids, below)) ∙ old.1, old.2)
            | inr over ↦
                let at : id ≡ length mr = omega (arith, small, length-append mr (Some new ∷ [])) in
                let is : new ≡ r = same_Some new r (sym (ap (λ n. get_or (mr ++ Some new ∷ []) n None) at ∙ get_or-append_seam mr (Some new) [] None) ∙ e) in
                (new, ap (λ n. get_or (kr ++ Some new ∷ []) n None) (at ∙ sym h.ids) ∙ get_or-append_seam kr (Some new) [] None, ap (λ (x : Record). x.value) is)
          ];
    }

-- a record changed in both
abbrev valued : List ℕ → Record → Record
valued v r = record { value = v; fixed = r.fixed }

mapped_some : (f : Record → Record) (o : Option Record) (r : Record) → option_map f o ≡ Some r → (x : Record) × (o ≡ Some x) × (f x ≡ r)
mapped_some f None r e = absurd (none-some r e)
mapped_some f (Some x) r e = (x, refl, same_Some (f x) r e)

holds_valued : (kr mr : List (Option Record)) (id : ℕ) (v : List ℕ) → Holds kr mr → Holds (set kr id (option_map (valued v) (get_or kr id None))) (set mr id (option_map (valued v) (get_or mr id None)))
holds_valued kr mr id v h = record {
  ids = length-set kr id _ ∙ h.ids ∙ sym (length-set mr id _);
  values = λ j r e. elim (same_or_not j id) [
    | inl s ↦
        let small : id < length mr = omega (arith, s.0, id_within _ j r e, length-set mr id (option_map (valued v) (get_or mr id None))) in
        let at : option_map (valued v) (get_or mr id None) ≡ Some r = sym (get_or-set_same mr id _ None small) ∙ ap (λ n. get_or (set mr id (option_map (valued v) (get_or mr id None))) n None) (sym s.0) ∙ e in
        let x = mapped_some (valued v) (get_or mr id None) r at in
        let y = h.values id x.0 x.1 in (
          valued v y.0,
          ap (λ n. get_or (set kr id (option_map (valued v) (get_or kr id None))) n None) s.0 ∙ get_or-set_same kr id _ None (omega (arith, small, h.ids)) ∙ ap (option_map (valued v)) y.1,
          ap (λ (z : Record). z.value) x.2,
        )
    | inr s ↦
        let y = h.values j r (sym (get_or-set_other mr id j _ None s.0) ∙ e) in
        (y.0, get_or-set_other kr id j _ None s.0 ∙ y.1, y.2)
  ];
}

-- a record that goes, or whether it is fixed
holds_gone : (kr mr : List (Option Record)) (id : ℕ) → Holds kr mr → Holds kr (set mr id None)
holds_gone kr mr id h = record {
  ids = h.ids ∙ sym (length-set mr id None);
  values = λ j r e. elim (same_or_not j id) [
    | inl s ↦
        let gone : Option Record = None in
        let small : id < length mr = omega (arith, s.0, id_within _ j r e, length-set mr id gone) in
        absurd (none-some r (sym (get_or-set_same mr id None None small) ∙ ap (λ n. get_or (set mr id None) n None) (sym s.0) ∙ e))
    | inr s ↦ h.values j r (sym (get_or-set_other mr id j None None s.0) ∙ e)
  ];
}

holds_unused : (m : RecordMap) (kr : List (Option Record)) (id : ℕ) → Holds kr m.records → (r : Reply) (k : Step) → k.reply ≡ r → k.map ≡ mirror m kr → StepsAlike k (record { reply = r; map = without_unused m id })
holds_unused m kr id h r k e is = elim (is_used m id) as (λ b. StepsAlike k (record { reply = r; map = cond b m (record { names = m.names; records = set m.records id None; tags = m.tags }) })) [
  | true ↦ record { replies = e; records = kr; map = is; holds = h }
  | false ↦ record { replies = e; records = kr; map = is; holds = holds_gone kr m.records id h }
]

holds_fixed : (kr mr : List (Option Record)) (id : ℕ) (b : Bool) → Holds kr mr → Holds kr (set mr id (option_map (λ (r : Record). record { value = r.value; fixed = b }) (get_or mr id None)))
holds_fixed kr mr id b h = record {
  ids = h.ids ∙ sym (length-set mr id _);
  values = λ j r e. elim (same_or_not j id) [
    | inl s ↦
        let f : Record → Record = λ r. record { value = r.value; fixed = b } in
        let small : id < length mr = omega (arith, s.0, id_within _ j r e, length-set mr id (option_map f (get_or mr id None))) in
        let at : option_map f (get_or mr id None) ≡ Some r = sym (get_or-set_same mr id _ None small) ∙ ap (λ n. get_or (set mr id (option_map f (get_or mr id None))) n None) (sym s.0) ∙ e in
        let x = mapped_some f (get_or mr id None) r at in
        let y = h.values id x.0 x.1 in
        (y.0, ap (λ n. get_or kr n None) s.0 ∙ y.1, y.2 ∙ ap (λ (z : Record). z.value) x.2)
    | inr s ↦ h.values j r (sym (get_or-set_other mr id j _ None s.0) ∙ e)
  ];
}

module _ (m : RecordMap) (kr : List (Option Record)) (h : Holds kr m.records) where
  -- what the option leads to lives
  abbrev Lives : Option ℕ → Type 0
  Lives o = (id : ℕ) → o ≡ Some id → is_live m id ≡ true

  put_alike : (name : ℕ) (v : List ℕ) (o : Option ℕ) → Lives o → StepsAlike (put_step (mirror m kr) name v o) (put_step m name v o)
  put_alike name v None live = record {
    replies = refl;
    records = kr ++ Some (record { value = v; fixed = false }) ∷ [];
    map = λ i. record { names = set m.names name (Some (h.ids i)); records = kr ++ Some (record { value = v; fixed = false }) ∷ []; tags = m.tags };
    holds = holds_more kr m.records v h;
  }
  put_alike name v (Some id) live = record {
    replies = ap Was (value_same m kr id h (live id refl));
    records = set kr id (option_map (valued v) (get_or kr id None));
    map = refl;
    holds = holds_valued kr m.records id v h;
  }

  get_alike : (o : Option ℕ) → Lives o → StepsAlike (get_step (mirror m kr) o) (get_step m o)
  get_alike None live = same_map m kr Absent Absent h refl
  get_alike (Some id) live = same_map m kr _ _ h (ap Val (value_same m kr id h (live id refl)))

  del_alike : (name : ℕ) (o : Option ℕ) → Lives o → StepsAlike (del_kept (mirror m kr) name o) (del_step m name o)
  del_alike name None live = same_map m kr Absent Absent h refl
  del_alike name (Some id) live = holds_unused (with_name m name None) kr id h _ _ (ap Gone (value_same m kr id h (live id refl))) refl

  named_alike : (o : Option ℕ) → Lives o → named_value (mirror m kr) o ≡ named_value m o
  named_alike None live = refl
  named_alike (Some id) live = value_same m kr id h (live id refl)

  at_alike : (o : Option ℕ) → ((name : ℕ) → Lives (id_of m name)) → StepsAlike (at_step (mirror m kr) o) (at_step m o)
  at_alike None live = same_map m kr Absent Absent h refl
  at_alike (Some name) live = same_map m kr _ _ h (ap (At (record { 0 = name })) (named_alike (id_of m name) (live name)))

  link_alike : (other : ℕ) (o : Option ℕ) → StepsAlike (link_step (mirror m kr) other o) (link_step m other o)
  link_alike other None = same_map m kr Absent Absent h refl
  link_alike other (Some id) =
      elim (is_some (id_of m other)) as (λ b. StepsAlike (cond b (stays (mirror m kr) Taken) (cond (name_count m id == 8) (stays (mirror m kr) Many) (record { reply = Done; map = with_name (mirror m kr) other (Some id) }))) (cond b (stays m Taken) (cond (name_count m id == 8) (stays m Many) (record { reply = Done; map = with_name m other (Some id) })))) [
        | true ↦ same_map m kr Taken Taken h refl
        | false ↦ elim (name_count m id == 8) as (λ b. StepsAlike (cond b (stays (mirror m kr) Many) (record { reply = Done; map = with_name (mirror m kr) other (Some id) })) (cond b (stays m Many) (record { reply = Done; map = with_name m other (Some id) }))) [
          | true ↦ same_map m kr Many Many h refl
          | false ↦ record { replies = refl; records = kr; map = refl; holds = h }
        ]
      ]

  hold_alike : (place : ℕ) (held named : Option ℕ) → StepsAlike (hold_step (mirror m kr) place held named) (hold_step m place held named)
  hold_alike place (Some id) named = same_map m kr Used Used h refl
  hold_alike place None None = same_map m kr Absent Absent h refl
  hold_alike place None (Some id) = record { replies = refl; records = kr; map = refl; holds = h }

  read_alike : (o : Option ℕ) → Lives o → StepsAlike (read_step (mirror m kr) o) (read_step m o)
  read_alike None live = same_map m kr Idle Idle h refl
  read_alike (Some id) live = same_map m kr _ _ h (ap Val (value_same m kr id h (live id refl)))

  write_alike : (v : List ℕ) (o : Option ℕ) → Lives o → StepsAlike (write_step (mirror m kr) v o) (write_step m v o)
  write_alike v None live = same_map m kr Idle Idle h refl
  write_alike v (Some id) live = record {
    replies = ap Was (value_same m kr id h (live id refl));
    records = set kr id (option_map (valued v) (get_or kr id None));
    map = refl;
    holds = holds_valued kr m.records id v h;
  }

  drop_alike : (place : ℕ) (o : Option ℕ) → StepsAlike (drop_kept (mirror m kr) place o) (drop_step m place o)
  drop_alike place None = same_map m kr Idle Idle h refl
  drop_alike place (Some id) = holds_unused (with_tag m place None) kr id h _ _ refl refl

  fix_alike : (b : Bool) (o : Option ℕ) → StepsAlike (fix_kept (mirror m kr) o) (fix_step m b o)
  fix_alike b None = same_map m kr Absent Absent h refl
  fix_alike b (Some id) = record { replies = refl; records = kr; map = refl; holds = holds_fixed kr m.records id b h }

  -- each step
  pub steps_alike : (worker : ℕ) (command : Command) → IsValid m → StepsAlike (step_kept (mirror m kr) worker command) (step m worker command)
  steps_alike worker (Put name v) valid = put_alike name.0 v (id_of m name.0) (λ id e. valid.named name.0 id e)
  steps_alike worker (Get name) valid = get_alike (id_of m name.0) (λ id e. valid.named name.0 id e)
  steps_alike worker (Del name) valid = del_alike name.0 (id_of m name.0) (λ id e. valid.named name.0 id e)
  steps_alike worker First valid = at_alike (least_name m 0) (λ name id e. valid.named name id e)
  steps_alike worker (Next name) valid = at_alike (least_name m (name.0 + 1)) (λ other id e. valid.named other id e)
  steps_alike worker Count valid = same_map m kr (Number (present_count m)) (Number (present_count m)) h refl
  steps_alike worker (Link name other) valid = link_alike other.0 (id_of m name.0)
  steps_alike worker (Hold tag name) valid = hold_alike (tag_place worker tag) (held_at m (tag_place worker tag)) (id_of m name.0)
  steps_alike worker (Read tag) valid = read_alike (held_at m (tag_place worker tag)) (λ id e. valid.held (tag_place worker tag) id e)
  steps_alike worker (Write tag v) valid = write_alike v (held_at m (tag_place worker tag)) (λ id e. valid.held (tag_place worker tag) id e)
  steps_alike worker (Drop tag) valid = drop_alike (tag_place worker tag) (held_at m (tag_place worker tag))
  steps_alike worker (Fix name) valid = fix_alike true (id_of m name.0)
  steps_alike worker (Loose name) valid = fix_alike false (id_of m name.0)
