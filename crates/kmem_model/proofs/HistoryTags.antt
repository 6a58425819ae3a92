-- Which tags are in use after a history, and that a record is fixed only by a `fix`.
use Rattle.std.proofs.Common.{◌≡◌, ◌≢◌, ℕ, zero, suc, ◌+◌, ◌*◌, ◌-◌, ◌<◌, ◌==◌, ◌&&◌, ◌||◌, ◌⊎◌, inl, inr, Bool, true, false, cond, List, [], ◌∷◌, All, length, map, get_or, set, Option, Some, None, is_some, option_map, ⊎_elim, sym, ◌∙◌, ap, refl, arith}
use Rattle.std.specs.List.{list_any}
use Rattle.std.specs.Option.{option_map_or}
use Rattle.std.proofs.lemmas.Bool.{cases_lt, cases_eq, cases_Bool, both_ways, cond-true, cond-false, cond_both, eq-eqb, ne_eqb, and_from, and_left, and_right, false≢true}
use Rattle.std.proofs.lemmas.List.{get_or-set_same, get_or-set_other, get_or_past, set_past, length-set, get_or_append_left, get_or-append_right}
use Rattle.kmem_text.specs.Grammar.{IsWithinTags}
use Rattle.kmem_text.specs.declared.command.NameId.{NameId}
use Rattle.kmem_text.specs.declared.command.Command.{Command}
use Rattle.kmem_text.specs.declared.command.Command.TheVariants.{Put, Get, Del, First, Next, Count, Link, Hold, Read, Write, Drop, Fix, Loose}
use Rattle.kmem_text.specs.declared.command.Reply.{Reply}
use Rattle.kmem_text.specs.declared.command.Reply.TheVariants.{Full, Done}
use Rattle.kmem_model.specs.declared.record_entry.RecordEntry.{RecordEntry}
use Rattle.kmem_model.specs.Records.{Record, RecordMap, tag_place, no_records, id_of, held_at, record_at, is_used, least_name, name_count, with_record, changed_at, with_fixed, with_name, with_tag, without_unused}
use Rattle.kmem_model.specs.RecordStep.{Step, put_step, get_step, del_step, at_step, link_step, hold_step, read_step, write_step, drop_step, fix_step, step, leaves_tags}
use Rattle.kmem_model.specs.History.{worker_of, is_refusal, map_next, map_after, IsRight, IsLegalHistory, IsEntryWithin, is_done, is_hold_of, is_drop_of, takes_tag, drops_tag, in_use, own_entries, IsTaken, is_hold, is_fix, has_held, has_fixed}
use Rattle.kmem_model.specs.OneRun.{is_fixed}
use Rattle.kmem_model.proofs.Legal.{step_no_refusal}
use Rattle.kmem_model.proofs.StepTags.{tags_stay, tag_held, tag_not_held, tag_dropped}
use Rattle.kmem_model.proofs.CacheLists.{get_or-replicate_none}

-- One entry

-- an entry that is no refusal is the step
record IsStep (m : RecordMap) (e : ℕ × RecordEntry) : Type 0 where
  reply : e.1.reply ≡ (step m (worker_of e.0) e.1.command).reply
  map : map_next m e ≡ (step m (worker_of e.0) e.1.command).map

-- and a refusal leaves the map
record IsLeft (m : RecordMap) (e : ℕ × RecordEntry) : Type 0 where
  reply : e.1.reply ≡ Full
  map : map_next m e ≡ m

right_is : (m : RecordMap) (e : ℕ × RecordEntry) → IsRight m e → IsLeft m e ⊎ IsStep m e
right_is m e (inl refused) = inl (record { reply = refused.0; map = cond-true (is_refusal e.1.reply) m _ (ap is_refusal refused.0) })
right_is m e (inr same) = inr (record { reply = same; map = cond-false (is_refusal e.1.reply) m _ (ap is_refusal same ∙ step_no_refusal m (worker_of e.0) e.1.command) })

done_says : (reply : Reply) → is_done reply ≡ true → reply ≡ Done
done_says Done e = refl
done_says _ e = absurd (cc)

-- Tags

-- what one entry makes of a tag of its own worker
abbrev tag_next : ℕ → Bool → RecordEntry → Bool
tag_next tag before e = cond (takes_tag tag e) true (cond (drops_tag tag e) false before)

-- an entry without `ok`, and one that is no `hold` and no `drop`, leaves the tag
undone_next : (tag : ℕ) (before : Bool) (e : RecordEntry) → is_done e.reply ≡ false → tag_next tag before e ≡ before
undone_next tag before e undone =
    cond-false (takes_tag tag e) true _ (and_left (is_done e.reply) (is_hold_of tag e.command) undone) ∙ cond-false (drops_tag tag e) false before (and_left (is_done e.reply) (is_drop_of tag e.command) undone)

other_next : (tag : ℕ) (before : Bool) (e : RecordEntry) → is_hold_of tag e.command ≡ false → is_drop_of tag e.command ≡ false → tag_next tag before e ≡ before
other_next tag before e no_hold no_drop =
    cond-false (takes_tag tag e) true _ (and_right (is_done e.reply) (is_hold_of tag e.command) no_hold) ∙ cond-false (drops_tag tag e) false before (and_right (is_done e.reply) (is_drop_of tag e.command) no_drop)

-- a command that leaves which tags are in use
leaving_next : (tag : ℕ) (before : Bool) (reply : Reply) (number : ℕ) (command : Command) → leaves_tags command ≡ true →
    tag_next tag before (record { number = number; command = command; reply = reply }) ≡ before
leaving_next tag before reply number command leaves = other_next tag before (record { number = number; command = command; reply = reply }) (no_hold command leaves) (no_drop command leaves)
  where
    no_hold : (c : Command) → leaves_tags c ≡ true → is_hold_of tag c ≡ false
    no_hold (Hold t name) e = absurd (false≢true e)
    no_hold _ e = refl

    no_drop : (c : Command) → leaves_tags c ≡ true → is_drop_of tag c ≡ false
    no_drop (Drop t) e = absurd (false≢true e)
    no_drop _ e = refl

-- the tag's place after a place was written
written_tag : (tags : List (Option ℕ)) (P Q : ℕ) (x : Option ℕ) → Q < length tags → is_some (get_or (set tags Q x) P None) ≡ cond (P == Q) (is_some x) (is_some (get_or tags P None))
written_tag tags P Q x below =
    ⊎_elim
    (λ same. ap (λ n. is_some (get_or (set tags Q x) n None)) same ∙ (ap is_some (get_or-set_same tags Q x None below) ∙ sym (cond-true (P == Q) _ _ (eq-eqb P Q same))))
    (λ other. ap is_some (get_or-set_other tags Q P x None other) ∙ sym (cond-false (P == Q) _ _ (ne_eqb P Q other)))
    (cases_eq P Q)

-- two places are one exactly where worker and tag are
same_place : (p q t u : ℕ) → t < 8 → u < 8 → (tag_place (worker_of p) t == tag_place (worker_of q) u) ≡ ((q == p) && (u == t))
same_place p q t u small low =
    ⊎_elim
    (λ same. ⊎_elim
    (λ equal. eq-eqb (tag_place (worker_of p) t) (tag_place (worker_of q) u) (omega (arith, same, equal)) ∙ sym (and_from (q == p) (u == t) (eq-eqb q p same) (eq-eqb u t equal)))
    (λ apart. ne_eqb (tag_place (worker_of p) t) (tag_place (worker_of q) u) (λ e. apart (omega (arith, same, e))) ∙ sym (and_right (q == p) (u == t) (ne_eqb u t apart)))
    (cases_eq u t))
    (λ other. ne_eqb (tag_place (worker_of p) t) (tag_place (worker_of q) u) (λ e. other (omega (arith, e, small, low))) ∙ sym (and_left (q == p) (u == t) (ne_eqb q p other)))
    (cases_eq q p)

-- what an entry makes of a tag
module _ (m : RecordMap) (workers pass tag : ℕ) (small : tag < 8) (within : pass < workers) (size : length m.tags ≡ 8 * workers) where
  abbrev tag_at : ℕ
  tag_at = tag_place (worker_of pass) tag

  abbrev was : Bool
  was = is_some (held_at m tag_at)

  abbrev HasNext : ℕ → Command → Reply → List (Option ℕ) → Type 0
  HasNext who command reply tags = (number : ℕ) → is_some (get_or tags tag_at None) ≡ cond (who == pass) (tag_next tag was (record { number = number; command = command; reply = reply })) was

  -- where the tags stay, and so does the tag
  stays_next : (who : ℕ) (command : Command) (reply : Reply) (tags : List (Option ℕ)) → tags ≡ m.tags → ((number : ℕ) → tag_next tag was (record { number = number; command = command; reply = reply }) ≡ was) → HasNext who command reply tags
  stays_next who command reply tags same next number =
      ap (λ ts. is_some (get_or ts tag_at None)) same
      ∙ cond_both (who == pass) _ _ (λ b. was ≡ b) (λ mine. sym (next number)) (λ other. refl)

  hold_next : (who t : ℕ) (name : NameId) (reply : Reply) → who < workers → t < 8 → reply ≡ (step m (worker_of who) (Hold t name)).reply → HasNext who (Hold t name) reply (step m (worker_of who) (Hold t name)).map.tags
  hold_next who t name reply below low same = by_done (is_done reply) refl
    where
      undone : is_done reply ≡ false → (step m (worker_of who) (Hold t name)).reply ≢ Done
      undone unset e = both_ways (is_done reply) unset (ap is_done (same ∙ e))

      by_done : (b : Bool) → is_done reply ≡ b → HasNext who (Hold t name) reply (step m (worker_of who) (Hold t name)).map.tags
      by_done false unset =
          stays_next who (Hold t name) reply _ (tag_not_held m (worker_of who) t name (undone unset)) (λ number. undone_next tag was (record { number = number; command = Hold t name; reply = reply }) unset)
      by_done true is = λ number.
          let held = tag_held m (worker_of who) t name (sym same ∙ done_says reply is) in
          ap (λ ts. is_some (get_or ts tag_at None)) held.1
          ∙ (written_tag m.tags tag_at (tag_place (worker_of who) t) (Some held.0) (omega (arith, size, below, low))
          ∙ (ap (λ b. cond b true was) (same_place pass who tag t small low)
          ∙ taken (who == pass) (t == tag) (is_done reply) is))
        where
          taken : (mine this done : Bool) → done ≡ true → cond (mine && this) true was ≡ cond mine (cond (done && this) true (cond (done && false) false was)) was
          taken mine this true e = both mine this
            where
              both : (x y : Bool) → cond (x && y) true was ≡ cond x (cond y true was) was
              both true y = refl
              both false y = refl
          taken mine this false e = absurd (false≢true e)

  drop_next : (who t : ℕ) (reply : Reply) → who < workers → t < 8 → reply ≡ (step m (worker_of who) (Drop t)).reply → HasNext who (Drop t) reply (step m (worker_of who) (Drop t)).map.tags
  drop_next who t reply below low same = by_held (held_at m (tag_place (worker_of who) t)) refl
    where
      by_held : (x : Option ℕ) → held_at m (tag_place (worker_of who) t) ≡ x → HasNext who (Drop t) reply (step m (worker_of who) (Drop t)).map.tags
      by_held None none =
          stays_next who (Drop t) reply _ (ap (λ y. (drop_step m (tag_place (worker_of who) t) y).map.tags) none)
          (λ number. undone_next tag was (record { number = number; command = Drop t; reply = reply }) (ap is_done (same ∙ ap (λ y. (drop_step m (tag_place (worker_of who) t) y).reply) none)))
      by_held (Some id) there = λ number.
          ap (λ ts. is_some (get_or ts tag_at None)) (tag_dropped m (worker_of who) t (ap is_some there))
          ∙ (written_tag m.tags tag_at (tag_place (worker_of who) t) None (omega (arith, size, below, low))
          ∙ (ap (λ b. cond b false was) (same_place pass who tag t small low)
          ∙ dropped (who == pass) (t == tag) (is_done reply) (ap is_done (same ∙ ap (λ y. (drop_step m (tag_place (worker_of who) t) y).reply) there))))
        where
          dropped : (mine this done : Bool) → done ≡ true → cond (mine && this) false was ≡ cond mine (cond (done && false) true (cond (done && this) false was)) was
          dropped mine this true e = both mine this
            where
              both : (x y : Bool) → cond (x && y) false was ≡ cond x (cond y false was) was
              both true y = refl
              both false y = refl
          dropped mine this false e = absurd (false≢true e)

  step_next : (who : ℕ) (command : Command) (reply : Reply) → who < workers → IsWithinTags command → reply ≡ (step m (worker_of who) command).reply → HasNext who command reply (step m (worker_of who) command).map.tags
  step_next who (Hold t name) reply below tags same = hold_next who t name reply below tags same
  step_next who (Drop t) reply below tags same = drop_next who t reply below tags same
  step_next who (Put name value) reply below tags same = stays_next who (Put name value) reply _ (tags_stay m (worker_of who) (Put name value) refl) (λ n. leaving_next tag was reply n (Put name value) refl)
  step_next who (Get name) reply below tags same = stays_next who (Get name) reply _ (tags_stay m (worker_of who) (Get name) refl) (λ n. leaving_next tag was reply n (Get name) refl)
  step_next who (Del name) reply below tags same = stays_next who (Del name) reply _ (tags_stay m (worker_of who) (Del name) refl) (λ n. leaving_next tag was reply n (Del name) refl)
  step_next who First reply below tags same = stays_next who First reply _ (tags_stay m (worker_of who) First refl) (λ n. leaving_next tag was reply n First refl)
  step_next who (Next name) reply below tags same = stays_next who (Next name) reply _ (tags_stay m (worker_of who) (Next name) refl) (λ n. leaving_next tag was reply n (Next name) refl)
  step_next who Count reply below tags same = stays_next who Count reply _ (tags_stay m (worker_of who) Count refl) (λ n. leaving_next tag was reply n Count refl)
  step_next who (Link name other) reply below tags same = stays_next who (Link name other) reply _ (tags_stay m (worker_of who) (Link name other) refl) (λ n. leaving_next tag was reply n (Link name other) refl)
  step_next who (Read t) reply below tags same = stays_next who (Read t) reply _ (tags_stay m (worker_of who) (Read t) refl) (λ n. leaving_next tag was reply n (Read t) refl)
  step_next who (Write t value) reply below tags same = stays_next who (Write t value) reply _ (tags_stay m (worker_of who) (Write t value) refl) (λ n. leaving_next tag was reply n (Write t value) refl)
  step_next who (Fix name) reply below tags same = stays_next who (Fix name) reply _ (tags_stay m (worker_of who) (Fix name) refl) (λ n. leaving_next tag was reply n (Fix name) refl)
  step_next who (Loose name) reply below tags same = stays_next who (Loose name) reply _ (tags_stay m (worker_of who) (Loose name) refl) (λ n. leaving_next tag was reply n (Loose name) refl)

  entry_next : (names : ℕ) (e : ℕ × RecordEntry) → IsRight m e → IsEntryWithin names workers e → is_some (held_at (map_next m e) tag_at) ≡ cond (e.0 == pass) (tag_next tag was e.1) was
  entry_next names e right range =
      ⊎_elim
      (λ left. stays_next e.0 e.1.command e.1.reply (map_next m e).tags (ap (λ (n : RecordMap). n.tags) left.map)
      (λ number. undone_next tag was (record { number = number; command = e.1.command; reply = e.1.reply }) (ap is_done left.reply)) e.1.number)
      (λ on. ap (λ (n : RecordMap). is_some (get_or n.tags tag_at None)) on.map ∙ step_next e.0 e.1.command e.1.reply range.pass range.tagged on.reply e.1.number)
      (right_is m e right)

-- the number of tags stays
tags_size : (m : RecordMap) (worker : ℕ) (command : Command) → length (step m worker command).map.tags ≡ length m.tags
tags_size m worker (Hold t name) =
    ⊎_elim (λ done. ap length (tag_held m worker t name (done_says _ done)).1 ∙ length-set m.tags (tag_place worker t) (Some _))
    (λ undone. ap length (tag_not_held m worker t name (λ e. both_ways (is_done (step m worker (Hold t name)).reply) undone (ap is_done e))))
    (cases_Bool (is_done (step m worker (Hold t name)).reply))
tags_size m worker (Drop t) = by_held (held_at m (tag_place worker t)) refl
  where
    by_held : (x : Option ℕ) → held_at m (tag_place worker t) ≡ x → length (step m worker (Drop t)).map.tags ≡ length m.tags
    by_held None none = ap (λ y. length (drop_step m (tag_place worker t) y).map.tags) none
    by_held (Some id) there = ap length (tag_dropped m worker t (ap is_some there)) ∙ length-set m.tags (tag_place worker t) None
tags_size m worker (Put name value) = ap length (tags_stay m worker (Put name value) refl)
tags_size m worker (Get name) = ap length (tags_stay m worker (Get name) refl)
tags_size m worker (Del name) = ap length (tags_stay m worker (Del name) refl)
tags_size m worker First = ap length (tags_stay m worker First refl)
tags_size m worker (Next name) = ap length (tags_stay m worker (Next name) refl)
tags_size m worker Count = ap length (tags_stay m worker Count refl)
tags_size m worker (Link name other) = ap length (tags_stay m worker (Link name other) refl)
tags_size m worker (Read t) = ap length (tags_stay m worker (Read t) refl)
tags_size m worker (Write t value) = ap length (tags_stay m worker (Write t value) refl)
tags_size m worker (Fix name) = ap length (tags_stay m worker (Fix name) refl)
tags_size m worker (Loose name) = ap length (tags_stay m worker (Loose name) refl)

pub next_size : (m : RecordMap) (e : ℕ × RecordEntry) → length (map_next m e).tags ≡ length m.tags
next_size m e = cond_both (is_refusal e.1.reply) _ _ (λ (n : RecordMap). length n.tags ≡ length m.tags) (λ full. refl) (λ other. tags_size m (worker_of e.0) e.1.command)

pub in_use_from : (names workers pass tag : ℕ) (m : RecordMap) (h : List (ℕ × RecordEntry)) → tag < 8 → pass < workers → length m.tags ≡ 8 * workers → IsLegalHistory m h → All (IsEntryWithin names workers) h →
    is_some (held_at (map_after m h) (tag_place (worker_of pass) tag)) ≡ in_use tag (is_some (held_at m (tag_place (worker_of pass) tag))) (own_entries pass h)
in_use_from names workers pass tag m [] small within size legal range = refl
in_use_from names workers pass tag m (e ∷ h) small within size legal range =
    in_use_from names workers pass tag (map_next m e) h small within (next_size m e ∙ size) legal.1 (λ i d below. range (suc i) d (omega (arith, below)))
    ∙ by_pass (e.0 == pass) refl
  where
    next : is_some (held_at (map_next m e) (tag_place (worker_of pass) tag)) ≡ cond (e.0 == pass) (tag_next tag (is_some (held_at m (tag_place (worker_of pass) tag))) e.1) (is_some (held_at m (tag_place (worker_of pass) tag)))
    next = entry_next m workers pass tag small within size names e legal.0 (range 0 e (omega arith))

    by_pass : (b : Bool) → (e.0 == pass) ≡ b → in_use tag (is_some (held_at (map_next m e) (tag_place (worker_of pass) tag))) (own_entries pass h) ≡ in_use tag (is_some (held_at m (tag_place (worker_of pass) tag))) (own_entries pass (e ∷ h))
    by_pass true mine =
        ap (λ b. in_use tag b (own_entries pass h)) (next ∙ cond-true (e.0 == pass) _ _ mine)
        ∙ sym (ap (λ (es : List (ℕ × RecordEntry)). in_use tag (is_some (held_at m (tag_place (worker_of pass) tag))) (map (λ (x : ℕ × RecordEntry). x.1) es)) (cond-true (e.0 == pass) _ _ mine))
    by_pass false other =
        ap (λ b. in_use tag b (own_entries pass h)) (next ∙ cond-false (e.0 == pass) _ _ other)
        ∙ sym (ap (λ (es : List (ℕ × RecordEntry)). in_use tag (is_some (held_at m (tag_place (worker_of pass) tag))) (map (λ (x : ℕ × RecordEntry). x.1) es)) (cond-false (e.0 == pass) _ _ other))

-- a tag in use was taken, and not given up since
abbrev IsKeptFrom : ℕ → List RecordEntry → Type 0
IsKeptFrom tag es = All (λ (e : RecordEntry). drops_tag tag e ≡ false) es

taken_in : (tag : ℕ) (before : Bool) (es : List RecordEntry) → in_use tag before es ≡ true → ((before ≡ true) × IsKeptFrom tag es) ⊎ IsTaken tag es
taken_in tag before [] e = inl (e, λ i d below. absurd (omega (arith, below)))
taken_in tag before (x ∷ xs) e = by_rest (taken_in tag (tag_next tag before x) xs e)
  where
    more : drops_tag tag x ≡ false → IsKeptFrom tag xs → IsKeptFrom tag (x ∷ xs)
    more here rest zero d below = here
    more here rest (suc i) d below = rest i d (omega (arith, below))

    by_drop : (taken dropped : Bool) → takes_tag tag x ≡ taken → drops_tag tag x ≡ dropped → cond taken true (cond dropped false before) ≡ true → IsKeptFrom tag xs → ((before ≡ true) × IsKeptFrom tag (x ∷ xs)) ⊎ IsTaken tag (x ∷ xs)
    by_drop true dropped takes drops is kept = inr (record { front = []; taking = x; rest = xs; whole = refl; takes = takes; kept = kept })
    by_drop false true takes drops is kept = absurd (false≢true is)
    by_drop false false takes drops is kept = inl (is, more drops kept)

    by_rest : ((tag_next tag before x ≡ true) × IsKeptFrom tag xs) ⊎ IsTaken tag xs → ((before ≡ true) × IsKeptFrom tag (x ∷ xs)) ⊎ IsTaken tag (x ∷ xs)
    by_rest (inl (is, kept)) = by_drop (takes_tag tag x) (drops_tag tag x) refl refl is kept
    by_rest (inr taken) = inr (record { front = x ∷ taken.front; taking = taken.taking; rest = taken.rest; whole = ap (λ es. x ∷ es) taken.whole; takes = taken.takes; kept = taken.kept })

pub taken_from : (tag : ℕ) (es : List RecordEntry) → in_use tag false es ≡ true → IsTaken tag es
taken_from tag es e = ⊎_elim (λ none. absurd (false≢true none.0)) (λ taken. taken) (taken_in tag false es e)

-- Whether any tag is in use, and any record fixed

-- where the tag at a place comes to be in use, the entry is a `hold` with `ok`
held_once : (m : RecordMap) (worker place : ℕ) (command : Command) → is_some (held_at (step m worker command).map place) ≡ true → (is_some (held_at m place) ≡ true) ⊎ ((is_done (step m worker command).reply && is_hold command) ≡ true)
held_once m worker place (Hold t name) held =
    ⊎_elim (λ done. inr (and_from (is_done (step m worker (Hold t name)).reply) true done refl))
    (λ undone. inl (ap (λ ts. is_some (get_or ts place None)) (sym (tag_not_held m worker t name (λ e. both_ways (is_done (step m worker (Hold t name)).reply) undone (ap is_done e)))) ∙ held))
    (cases_Bool (is_done (step m worker (Hold t name)).reply))
held_once m worker place (Drop t) held = by_held (held_at m (tag_place worker t)) refl
  where
    cleared : (tags : List (Option ℕ)) (i : ℕ) → is_some (get_or (set tags i None) place None) ≡ true → is_some (get_or tags place None) ≡ true
    cleared tags i e =
        ⊎_elim
        (λ below. ⊎_elim (λ same. absurd (false≢true (sym (ap is_some (ap (λ n. get_or (set tags i None) n None) same ∙ get_or-set_same tags i None None below)) ∙ e))) (λ other. sym (ap is_some (get_or-set_other tags i place None None other)) ∙ e) (cases_eq place i))
        (λ past. ap (λ ts. is_some (get_or ts place None)) (sym (set_past tags i None past)) ∙ e)
        (cases_lt i (length tags))

    by_held : (x : Option ℕ) → held_at m (tag_place worker t) ≡ x → (is_some (held_at m place) ≡ true) ⊎ ((is_done (step m worker (Drop t)).reply && is_hold (Drop t)) ≡ true)
    by_held None none = inl (sym (ap (λ y. is_some (get_or (drop_step m (tag_place worker t) y).map.tags place None)) none) ∙ held)
    by_held (Some id) there = inl (cleared m.tags (tag_place worker t) (ap (λ ts. is_some (get_or ts place None)) (sym (tag_dropped m worker t (ap is_some there))) ∙ held))
held_once m worker place (Put name value) held = inl (ap (λ ts. is_some (get_or ts place None)) (sym (tags_stay m worker (Put name value) refl)) ∙ held)
held_once m worker place (Get name) held = inl (ap (λ ts. is_some (get_or ts place None)) (sym (tags_stay m worker (Get name) refl)) ∙ held)
held_once m worker place (Del name) held = inl (ap (λ ts. is_some (get_or ts place None)) (sym (tags_stay m worker (Del name) refl)) ∙ held)
held_once m worker place First held = inl (ap (λ ts. is_some (get_or ts place None)) (sym (tags_stay m worker First refl)) ∙ held)
held_once m worker place (Next name) held = inl (ap (λ ts. is_some (get_or ts place None)) (sym (tags_stay m worker (Next name) refl)) ∙ held)
held_once m worker place Count held = inl held
held_once m worker place (Link name other) held = inl (ap (λ ts. is_some (get_or ts place None)) (sym (tags_stay m worker (Link name other) refl)) ∙ held)
held_once m worker place (Read t) held = inl (ap (λ ts. is_some (get_or ts place None)) (sym (tags_stay m worker (Read t) refl)) ∙ held)
held_once m worker place (Write t value) held = inl (ap (λ ts. is_some (get_or ts place None)) (sym (tags_stay m worker (Write t value) refl)) ∙ held)
held_once m worker place (Fix name) held = inl (ap (λ ts. is_some (get_or ts place None)) (sym (tags_stay m worker (Fix name) refl)) ∙ held)
held_once m worker place (Loose name) held = inl (ap (λ ts. is_some (get_or ts place None)) (sym (tags_stay m worker (Loose name) refl)) ∙ held)

-- a record that is fixed was fixed before
abbrev NoneFixed : RecordMap → RecordMap → Type 0
NoneFixed m n = (id : ℕ) → is_fixed n id ≡ true → is_fixed m id ≡ true

-- a read after a write
read_set : (xs : List (Option Record)) (i j : ℕ) (y : Option Record) → ((j ≡ i) × (get_or (set xs i y) j None ≡ y)) ⊎ (get_or (set xs i y) j None ≡ get_or xs j None)
read_set xs i j y =
    ⊎_elim
    (λ below. ⊎_elim (λ same. inl (same, ap (λ n. get_or (set xs i y) n None) same ∙ get_or-set_same xs i y None below)) (λ other. inr (get_or-set_other xs i j y None other)) (cases_eq j i))
    (λ past. inr (ap (λ ys. get_or ys j None) (set_past xs i y past)))
    (cases_lt i (length xs))

abbrev flag_of : Option Record → Bool
flag_of x = option_map_or (λ (r : Record). r.fixed) x false

unchanged_flag : (change : Record → Record) → ((r : Record) → (change r).fixed ≡ r.fixed) → (x : Option Record) → flag_of (option_map change x) ≡ flag_of x
unchanged_flag change same None = refl
unchanged_flag change same (Some r) = same r

changed_fixed : (m : RecordMap) (id : ℕ) (change : Record → Record) → ((r : Record) → (change r).fixed ≡ r.fixed) → NoneFixed m (changed_at m id change)
changed_fixed m id change same j is =
    ⊎_elim
    (λ (here, e). ap flag_of (ap (record_at m) here) ∙ (sym (ap flag_of e ∙ unchanged_flag change same (record_at m id)) ∙ is))
    (λ e. sym (ap flag_of e) ∙ is)
    (read_set m.records id j (option_map change (record_at m id)))

loose_fixed : (m : RecordMap) (id : ℕ) → NoneFixed m (with_fixed m id false)
loose_fixed m id j is =
    ⊎_elim
    (λ (here, e). absurd (false≢true (sym (ap flag_of e ∙ none (record_at m id)) ∙ is)))
    (λ e. sym (ap flag_of e) ∙ is)
    (read_set m.records id j (option_map (λ r. record { value = r.value; fixed = false }) (record_at m id)))
  where
    none : (x : Option Record) → flag_of (option_map (λ (r : Record). record { value = r.value; fixed = false }) x) ≡ false
    none None = refl
    none (Some r) = refl

unused_fixed : (m n : RecordMap) (id : ℕ) → n.records ≡ m.records → NoneFixed m (without_unused n id)
unused_fixed m n id same j =
    cond_both (is_used n id) _ _ (λ (x : RecordMap). is_fixed x j ≡ true → is_fixed m j ≡ true)
    (λ used is. sym (ap (λ rs. flag_of (get_or rs j None)) same) ∙ is)
    (λ gone is.
    ⊎_elim
    (λ (here, e). absurd (false≢true (sym (ap flag_of e) ∙ is)))
    (λ e. sym (ap (λ rs. flag_of (get_or rs j None)) same) ∙ (sym (ap flag_of e) ∙ is))
    (read_set n.records id j None))

new_fixed : (m : RecordMap) (value : List ℕ) → NoneFixed m (with_record m value)
new_fixed m value j is =
    ⊎_elim
    (λ below. sym (ap flag_of (get_or_append_left m.records (Some (record { value = value; fixed = false }) ∷ []) None j below)) ∙ is)
    (λ past. absurd (false≢true (sym (ap flag_of (get_or-append_right m.records (Some (record { value = value; fixed = false }) ∷ []) (length m.records) j None refl past) ∙ single (j - length m.records)) ∙ is)))
    (cases_lt j (length m.records))
  where
    single : (i : ℕ) → flag_of (get_or (Some (record { value = value; fixed = false }) ∷ []) i None) ≡ false
    single zero = refl
    single (suc i) = ap flag_of (get_or_past {X = Option Record} [] i None (omega arith))

abbrev IsFixedOnce : RecordMap → Command → Step → Type 0
IsFixedOnce m command next = (id : ℕ) → is_fixed next.map id ≡ true → (is_fixed m id ≡ true) ⊎ ((is_done next.reply && is_fix command) ≡ true)

fixed_once : (m : RecordMap) (worker : ℕ) (command : Command) → IsFixedOnce m command (step m worker command)
fixed_once m worker (Put name value) = by_id (id_of m name.0)
  where
    by_id : (x : Option ℕ) → IsFixedOnce m (Put name value) (put_step m name.0 value x)
    by_id None = λ j is. inl (new_fixed m value j is)
    by_id (Some id) = λ j is. inl (changed_fixed m id (λ r. record { value = value; fixed = r.fixed }) (λ r. refl) j is)
fixed_once m worker (Get name) = by_id (id_of m name.0)
  where
    by_id : (x : Option ℕ) → IsFixedOnce m (Get name) (get_step m x)
    by_id None = λ j is. inl is
    by_id (Some id) = λ j is. inl is
fixed_once m worker (Del name) = by_id (id_of m name.0)
  where
    by_id : (x : Option ℕ) → IsFixedOnce m (Del name) (del_step m name.0 x)
    by_id None = λ j is. inl is
    by_id (Some id) = λ j is. inl (unused_fixed m (with_name m name.0 None) id refl j is)
fixed_once m worker First = by_name (least_name m 0)
  where
    by_name : (x : Option ℕ) → IsFixedOnce m First (at_step m x)
    by_name None = λ j is. inl is
    by_name (Some name) = λ j is. inl is
fixed_once m worker (Next name) = by_name (least_name m (name.0 + 1))
  where
    by_name : (x : Option ℕ) → IsFixedOnce m (Next name) (at_step m x)
    by_name None = λ j is. inl is
    by_name (Some other) = λ j is. inl is
fixed_once m worker Count = λ j is. inl is
fixed_once m worker (Link name other) = by_id (id_of m name.0)
  where
    by_id : (x : Option ℕ) → IsFixedOnce m (Link name other) (link_step m other.0 x)
    by_id None = λ j is. inl is
    by_id (Some id) =
        cond_both (is_some (id_of m other.0)) _ _ (IsFixedOnce m (Link name other))
        (λ taken j is. inl is)
        (λ free. cond_both (name_count m id == 8) _ _ (IsFixedOnce m (Link name other)) (λ many j is. inl is) (λ few j is. inl is))
fixed_once m worker (Hold tag name) = by_ids (held_at m (tag_place worker tag)) (id_of m name.0)
  where
    by_ids : (x y : Option ℕ) → IsFixedOnce m (Hold tag name) (hold_step m (tag_place worker tag) x y)
    by_ids (Some id) y = λ j is. inl is
    by_ids None None = λ j is. inl is
    by_ids None (Some id) = λ j is. inl is
fixed_once m worker (Read tag) = by_id (held_at m (tag_place worker tag))
  where
    by_id : (x : Option ℕ) → IsFixedOnce m (Read tag) (read_step m x)
    by_id None = λ j is. inl is
    by_id (Some id) = λ j is. inl is
fixed_once m worker (Write tag value) = by_id (held_at m (tag_place worker tag))
  where
    by_id : (x : Option ℕ) → IsFixedOnce m (Write tag value) (write_step m value x)
    by_id None = λ j is. inl is
    by_id (Some id) = λ j is. inl (changed_fixed m id (λ r. record { value = value; fixed = r.fixed }) (λ r. refl) j is)
fixed_once m worker (Drop tag) = by_id (held_at m (tag_place worker tag))
  where
    by_id : (x : Option ℕ) → IsFixedOnce m (Drop tag) (drop_step m (tag_place worker tag) x)
    by_id None = λ j is. inl is
    by_id (Some id) = λ j is. inl (unused_fixed m (with_tag m (tag_place worker tag) None) id refl j is)
fixed_once m worker (Fix name) = by_id (id_of m name.0)
  where
    by_id : (x : Option ℕ) → IsFixedOnce m (Fix name) (fix_step m true x)
    by_id None = λ j is. inl is
    by_id (Some id) = λ j is. inr refl
fixed_once m worker (Loose name) = by_id (id_of m name.0)
  where
    by_id : (x : Option ℕ) → IsFixedOnce m (Loose name) (fix_step m false x)
    by_id None = λ j is. inl is
    by_id (Some id) = λ j is. inl (loose_fixed m id j is)

-- along a history

some_in : (test : ℕ × RecordEntry → Bool) (e : ℕ × RecordEntry) (h : List (ℕ × RecordEntry)) → (test e ≡ true) ⊎ (list_any test h ≡ true) → list_any test (e ∷ h) ≡ true
some_in test e h (inl is) = ap (λ b. b || list_any test h) is
some_in test e h (inr is) = by_first (test e)
  where
    by_first : (b : Bool) → (b || list_any test h) ≡ true
    by_first true = refl
    by_first false = is

pub held_from : (m : RecordMap) (h : List (ℕ × RecordEntry)) (place : ℕ) → IsLegalHistory m h → is_some (held_at (map_after m h) place) ≡ true → (is_some (held_at m place) ≡ true) ⊎ (has_held h ≡ true)
held_from m [] place legal held = inl held
held_from m (e ∷ h) place legal held =
    ⊎_elim
    (λ there. ⊎_elim (λ before. inl before) (λ here. inr (some_in (λ (x : ℕ × RecordEntry). is_done x.1.reply && is_hold x.1.command) e h (inl here))) (once there))
    (λ later. inr (some_in (λ (x : ℕ × RecordEntry). is_done x.1.reply && is_hold x.1.command) e h (inr later)))
    (held_from (map_next m e) h place legal.1 held)
  where
    once : is_some (held_at (map_next m e) place) ≡ true → (is_some (held_at m place) ≡ true) ⊎ ((is_done e.1.reply && is_hold e.1.command) ≡ true)
    once there =
        ⊎_elim
        (λ left. inl (ap (λ n. is_some (held_at n place)) (sym left.map) ∙ there))
        (λ on. ⊎_elim (λ before. inl before) (λ here. inr (ap (λ r. is_done r && is_hold e.1.command) on.reply ∙ here)) (held_once m (worker_of e.0) place e.1.command (ap (λ n. is_some (held_at n place)) (sym on.map) ∙ there)))
        (right_is m e legal.0)

pub fixed_from : (m : RecordMap) (h : List (ℕ × RecordEntry)) (id : ℕ) → IsLegalHistory m h → is_fixed (map_after m h) id ≡ true → (is_fixed m id ≡ true) ⊎ (has_fixed h ≡ true)
fixed_from m [] id legal is = inl is
fixed_from m (e ∷ h) id legal is =
    ⊎_elim
    (λ there. ⊎_elim (λ before. inl before) (λ here. inr (some_in (λ (x : ℕ × RecordEntry). is_done x.1.reply && is_fix x.1.command) e h (inl here))) (once there))
    (λ later. inr (some_in (λ (x : ℕ × RecordEntry). is_done x.1.reply && is_fix x.1.command) e h (inr later)))
    (fixed_from (map_next m e) h id legal.1 is)
  where
    once : is_fixed (map_next m e) id ≡ true → (is_fixed m id ≡ true) ⊎ ((is_done e.1.reply && is_fix e.1.command) ≡ true)
    once there =
        ⊎_elim
        (λ left. inl (ap (λ n. is_fixed n id) (sym left.map) ∙ there))
        (λ on. ⊎_elim (λ before. inl before) (λ here. inr (ap (λ r. is_done r && is_fix e.1.command) on.reply ∙ here)) (fixed_once m (worker_of e.0) e.1.command id (ap (λ n. is_fixed n id) (sym on.map) ∙ there)))
        (right_is m e legal.0)

-- no tag is in use, and nothing is fixed, where there is no record
pub none_held : (names workers place : ℕ) → is_some (held_at (no_records names workers) place) ≡ false
none_held names workers place = ap is_some (get_or-replicate_none (8 * workers) place)

pub none_fixed : (names workers id : ℕ) → is_fixed (no_records names workers) id ≡ false
none_fixed names workers id = ap flag_of (get_or_past {X = Option Record} [] id None (omega arith))
