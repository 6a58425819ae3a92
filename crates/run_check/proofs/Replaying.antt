-- A history replayed entry by entry, on the map that records stay in.
use Rattle.std.proofs.Common.{◌≡◌, ◌≢◌, ◌↔◌, ◌⊎◌, ◌==◌, ℕ, ◌+◌, ◌*◌, ◌<◌, ◌≤◌, zero, suc, Bool, true, false, cond, List, [], ◌∷◌, ◌++◌, Option, Some, None, map, filter, length, refl, sym, ap, ◌∙◌, subst, arith, inl, inr, length-append, append_assoc, append-nil}
use Rattle.std.specs.Prelude.{slice_get}
use Rattle.std.specs.Option.{is_some}
use Rattle.std.proofs.Math.ListN.{length-set, length-replicate}
use Rattle.std.proofs.lemmas.Bool.{true≢false, false≢true}
use Rattle.std.proofs.lemmas.List.{map-append}
use Rattle.kmem_text.specs.declared.command.Command.{Command}
use Rattle.kmem_text.specs.declared.command.Command.TheVariants.{Put, Get, Del, First, Next, Count, Link, Hold, Read, Write, Drop, Fix, Loose}
use Rattle.kmem_text.specs.declared.command.Reply.{Reply}
use Rattle.kmem_text.specs.declared.command.Reply.TheVariants.{Full, Taken, Many, Done}
use Rattle.kmem_model.specs.declared.record_entry.RecordEntry.{RecordEntry}
use Rattle.kmem_model.specs.Records.{Record, RecordMap, IsValid, no_records, tag_place, id_of, held_at, is_used, name_count, least_name, with_name, with_tag, without_unused}
use Rattle.kmem_model.specs.RecordStep.{Step, IsInRange, IsValidAs, stays, put_step, get_step, del_step, at_step, link_step, hold_step, read_step, write_step, drop_step, fix_step, step}
use Rattle.kmem_model.specs.History.{worker_of, IsLegalHistory, IsRight, is_refusal, is_put_of_absent, map_next, map_after, own_entries}
use Rattle.kmem_model.specs.RunLines.{place_line}
use Rattle.kmem_model.specs.Checked.{answered}
use Rattle.run_check.specs.PlainMaps.{step_kept}
use Rattle.run_check.specs.Replays.{IsTaken, IsWrong}
use Rattle.run_check.specs.Replayed.{HasReplayed, StopsReplay}
use Rattle.run_check.specs.Shares.{left_in}
use Rattle.run_check.specs.Turns.{TakesTurn, TakesPlace, RefusesPlace}
use Rattle.run_check.specs.declared.share.Share.{Share}
use Rattle.run_check.proofs.KeptMaps.{same_or_not, itself}
use Rattle.run_check.proofs.Mirrors.{mirror, Holds, StepsAlike, steps_alike}

-- No step refuses, and each makes one record more at the most

module _ (m : RecordMap) where
  abbrev Plain : Step → Type 0
  Plain s = (is_refusal s.reply ≡ false) × (length s.map.records ≤ length m.records + 1)

  unused_len : (n : RecordMap) (id : ℕ) → length n.records ≡ length m.records → length (without_unused n id).records ≤ length m.records + 1
  unused_len n id same = elim (is_used n id) as (λ b. length (cond b n (record n { records = Rattle.std.proofs.Math.ListN.set n.records id None })).records ≤ length m.records + 1) [
    | true ↦ omega arith
    | false ↦ let gone : Option Record = None in omega (arith, length-set n.records id gone)
  ]

  put_plain : (name : ℕ) (v : List ℕ) (o : Option ℕ) → Plain (put_step m name v o)
  put_plain name v None = (refl, omega (arith, length-append m.records (Some (record { value = v; fixed = false }) ∷ [])))
  put_plain name v (Some id) = (refl, omega (arith, length-set {A = Option Record} m.records id))

  get_plain : (o : Option ℕ) → Plain (get_step m o)
  get_plain None = (refl, omega arith)
  get_plain (Some id) = (refl, omega arith)

  del_plain : (name : ℕ) (o : Option ℕ) → Plain (del_step m name o)
  del_plain name None = (refl, omega arith)
  del_plain name (Some id) = (refl, unused_len (with_name m name None) id refl)

  at_plain : (o : Option ℕ) → Plain (at_step m o)
  at_plain None = (refl, omega arith)
  at_plain (Some name) = (refl, omega arith)

  link_plain : (other : ℕ) (o : Option ℕ) → Plain (link_step m other o)
  link_plain other None = (refl, omega arith)
  link_plain other (Some id) = elim (is_some (id_of m other)) as (λ b. Plain (cond b (stays m Taken) (cond (name_count m id == 8) (stays m Many) (record { reply = Done; map = with_name m other (Some id) })))) [
    | true ↦ (refl, omega arith)
    | false ↦ elim (name_count m id == 8) as (λ b. Plain (cond b (stays m Many) (record { reply = Done; map = with_name m other (Some id) }))) [ true ↦ (refl, omega arith) | false ↦ (refl, omega arith) ]
  ]

  hold_plain : (place : ℕ) (held named : Option ℕ) → Plain (hold_step m place held named)
  hold_plain place (Some id) named = (refl, omega arith)
  hold_plain place None None = (refl, omega arith)
  hold_plain place None (Some id) = (refl, omega arith)

  read_plain : (o : Option ℕ) → Plain (read_step m o)
  read_plain None = (refl, omega arith)
  read_plain (Some id) = (refl, omega arith)

  write_plain : (v : List ℕ) (o : Option ℕ) → Plain (write_step m v o)
  write_plain v None = (refl, omega arith)
  write_plain v (Some id) = (refl, omega (arith, length-set {A = Option Record} m.records id))

  drop_plain : (place : ℕ) (o : Option ℕ) → Plain (drop_step m place o)
  drop_plain place None = (refl, omega arith)
  drop_plain place (Some id) = (refl, unused_len (with_tag m place None) id refl)

  fix_plain : (b : Bool) (o : Option ℕ) → Plain (fix_step m b o)
  fix_plain b None = (refl, omega arith)
  fix_plain b (Some id) = (refl, omega (arith, length-set {A = Option Record} m.records id))

  step_plain : (worker : ℕ) (command : Command) → Plain (step m worker command)
  step_plain worker (Put name v) = put_plain name.0 v (id_of m name.0)
  step_plain worker (Get name) = get_plain (id_of m name.0)
  step_plain worker (Del name) = del_plain name.0 (id_of m name.0)
  step_plain worker First = at_plain (least_name m 0)
  step_plain worker (Next name) = at_plain (least_name m (name.0 + 1))
  step_plain worker Count = (refl, omega arith)
  step_plain worker (Link name other) = link_plain other.0 (id_of m name.0)
  step_plain worker (Hold tag name) = hold_plain (tag_place worker tag) (held_at m (tag_place worker tag)) (id_of m name.0)
  step_plain worker (Read tag) = read_plain (held_at m (tag_place worker tag))
  step_plain worker (Write tag v) = write_plain v (held_at m (tag_place worker tag))
  step_plain worker (Drop tag) = drop_plain (tag_place worker tag) (held_at m (tag_place worker tag))
  step_plain worker (Fix name) = fix_plain true (id_of m name.0)
  step_plain worker (Loose name) = fix_plain false (id_of m name.0)

-- How far a history is replayed
pub record IsReplayedTo (names workers : ℕ) (left : ℕ → List RecordEntry) (before : List (List ℕ)) (k : RecordMap) (left' : ℕ → List RecordEntry) (after : List (List ℕ)) (count : ℕ) : Type 0 where
  pub history : List (ℕ × RecordEntry)
  pub replayed : HasReplayed names workers history left before left' after
  pub counted : length history ≡ count
  pub records : List (Option Record)
  pub mirrors : k ≡ mirror (map_after (no_records names workers) history) records
  pub holds : Holds records (map_after (no_records names workers) history).records
  pub valid : IsValid (map_after (no_records names workers) history)
  pub names_len : length (map_after (no_records names workers) history).names ≡ names
  pub tags_len : length (map_after (no_records names workers) history).tags ≡ 8 * workers
  pub few : length (map_after (no_records names workers) history).records ≤ count

abbrev pub GoesOn : Type 0
GoesOn = (m : RecordMap) (worker : ℕ) (command : Command) → IsValid m → IsInRange m worker command → IsValidAs m (step m worker command).map

-- the map behind an entry, where it is right
record Went (m : RecordMap) (e : ℕ × RecordEntry) (k' : RecordMap) : Type 0 where
  right : IsRight m e
  records : List (Option Record)
  mirrors : k' ≡ mirror (map_next m e) records
  holds : Holds records (map_next m e).records
  valid : IsValidAs m (map_next m e)
  few : length (map_next m e).records ≤ length m.records + 1

next_is : (m : RecordMap) (e : ℕ × RecordEntry) (b : Bool) → is_refusal e.1.reply ≡ b → map_next m e ≡ cond b m (step m (worker_of e.0) e.1.command).map
next_is m e b is = ap (λ t. cond t m (step m (worker_of e.0) e.1.command).map) is

absent_same : (m : RecordMap) (kr : List (Option Record)) (command : Command) → is_put_of_absent m command ≡ is_put_of_absent (mirror m kr) command
absent_same m kr (Put name v) = refl
absent_same m kr _ = refl

goes : GoesOn → (m : RecordMap) (kr : List (Option Record)) (e : ℕ × RecordEntry) (k' : RecordMap) → Holds kr m.records → IsValid m → IsInRange (mirror m kr) (worker_of e.0) e.1.command → IsTaken (mirror m kr) (worker_of e.0) e.1.command e.1.reply k' → Went m e k'
goes law m kr e k' holds valid range (inl h) =
    let same : map_next m e ≡ m = next_is m e true (ap is_refusal h.0) in
    record {
      right = inl (h.0, absent_same m kr e.1.command ∙ h.1);
      records = kr;
      mirrors = h.2 ∙ ap (λ n. mirror n kr) (sym same);
      holds = subst (λ n. Holds kr n.records) (sym same) holds;
      valid = subst (IsValidAs m) (sym same) (record { valid = valid; names = refl; tags = refl });
      few = subst (λ n. length n.records ≤ length m.records + 1) (sym same) (omega arith);
    }
goes law m kr e k' holds valid range (inr h) =
    let alike = steps_alike m kr holds (worker_of e.0) e.1.command valid in
    let next : map_next m e ≡ (step m (worker_of e.0) e.1.command).map = next_is m e false h.0 in
    record {
      right = inr (h.1 ∙ alike.replies);
      records = alike.records;
      mirrors = h.2 ∙ alike.map ∙ ap (λ n. mirror n alike.records) (sym next);
      holds = subst (λ n. Holds alike.records n.records) (sym next) alike.holds;
      valid = subst (IsValidAs m) (sym next) (law m (worker_of e.0) e.1.command valid (record { names = range.names; tags = range.tags; first = range.first; last = range.last }));
      few = subst (λ n. length n.records ≤ length m.records + 1) (sym next) (step_plain m (worker_of e.0) e.1.command).1;
    }

-- an entry that the map on which records stay finds wrong is not right
wrong_is_not_right : (m : RecordMap) (kr : List (Option Record)) (e : ℕ × RecordEntry) → Holds kr m.records → IsValid m → IsWrong (mirror m kr) (worker_of e.0) e.1.command e.1.reply → IsRight m e → ⊥
wrong_is_not_right m kr e holds valid (inl w) (inl r) = true≢false (sym r.1 ∙ absent_same m kr e.1.command ∙ w.1)
wrong_is_not_right m kr e holds valid (inl w) (inr r) = true≢false (sym (ap is_refusal (sym r ∙ w.0)) ∙ (step_plain m (worker_of e.0) e.1.command).0)
wrong_is_not_right m kr e holds valid (inr w) (inl r) = true≢false (sym (ap is_refusal r.0) ∙ w.0)
wrong_is_not_right m kr e holds valid (inr w) (inr r) = w.1 (r ∙ sym (steps_alike m kr holds (worker_of e.0) e.1.command valid).replies)

none_is : (r : Record) → None ≡ Some r → ⊥
none_is r e = cc

-- at the start
pub replayed_none : (names workers : ℕ) (left : ℕ → List RecordEntry) (before : List (List ℕ)) (k : RecordMap) → k ≡ no_records names workers → IsValid (no_records names workers) → IsReplayedTo names workers left before k left before 0
replayed_none names workers left before k is valid = record {
  history = [];
  replayed = record { lines = refl; legal = tt; turns = λ pass. refl };
  counted = refl;
  records = [];
  mirrors = is;
  holds = record { ids = refl; values = λ id r e. absurd (none_is r e) };
  valid = valid;
  names_len = let none : Option ℕ = None in length-replicate names none;
  tags_len = let none : Option ℕ = None in length-replicate (8 * workers) none;
  few = omega arith;
}

one_or_none : (e : ℕ × RecordEntry) (b : Bool) → map (λ (x : ℕ × RecordEntry). x.1) (cond b (e ∷ []) []) ≡ cond b (e.1 ∷ []) []
one_or_none e true = refl
one_or_none e false = refl

pub not_itself : (p q : ℕ) → p ≢ q → (q == p) ≡ false
not_itself p q other = elim (same_or_not q p) [ inl s ↦ absurd (other (sym s.0)) | inr s ↦ s.1 ]

pub own_more : (pass : ℕ) (h : List (ℕ × RecordEntry)) (e : ℕ × RecordEntry) (b : Bool) → (e.0 == pass) ≡ b → own_entries pass (h ++ e ∷ []) ≡ own_entries pass h ++ cond b (e.1 ∷ []) []
own_more pass [] e b is = ap (λ t. map (λ (x : ℕ × RecordEntry). x.1) (cond t (e ∷ []) [])) is ∙ one_or_none e b
own_more pass (x ∷ h) e b is = elim (x.0 == pass) as (λ t. map (λ (y : ℕ × RecordEntry). y.1) (cond t (x ∷ filter (λ y. y.0 == pass) (h ++ e ∷ [])) (filter (λ y. y.0 == pass) (h ++ e ∷ []))) ≡ map (λ (y : ℕ × RecordEntry). y.1) (cond t (x ∷ filter (λ y. y.0 == pass) h) (filter (λ y. y.0 == pass) h)) ++ cond b (e.1 ∷ []) []) [
  | true ↦ ap (λ xs. x.1 ∷ xs) (own_more pass h e b is)
  | false ↦ own_more pass h e b is
]

turn_on : (pass : ℕ) (h : List (ℕ × RecordEntry)) (e : ℕ × RecordEntry) (old new : List RecordEntry) → old ≡ cond (pass == e.0) (e.1 ∷ new) new → own_entries pass h ++ old ≡ own_entries pass (h ++ e ∷ []) ++ new
turn_on pass h e old new is = elim (same_or_not pass e.0) [
  | inl s ↦
      let turned : (e.0 == pass) ≡ true = ap (λ n. n == pass) (sym s.0) ∙ itself pass in
      ap (λ xs. own_entries pass h ++ xs) (is ∙ ap (λ b. cond b (e.1 ∷ new) new) s.1) ∙ sym (append_assoc (own_entries pass h) (e.1 ∷ []) new) ∙ ap (λ xs. xs ++ new) (sym (own_more pass h e true turned))
  | inr s ↦
      let turned : (e.0 == pass) ≡ false = not_itself pass e.0 s.0 in
      ap (λ xs. own_entries pass h ++ xs) (is ∙ ap (λ b. cond b (e.1 ∷ new) new) s.1) ∙ ap (λ xs. xs ++ new) (sym (own_more pass h e false turned ∙ append-nil (own_entries pass h)))
]

-- an entry more
pub replayed_more : (names workers : ℕ) (left : ℕ → List RecordEntry) (before : List (List ℕ)) (k k' : RecordMap) (shares shares' : List Share) (mid after : List (List ℕ)) (count : ℕ) → GoesOn → ((m : RecordMap) (front rest : List (ℕ × RecordEntry)) → (IsLegalHistory m front × IsLegalHistory (map_after m front) rest) → IsLegalHistory m (front ++ rest)) → ((m : RecordMap) (front rest : List (ℕ × RecordEntry)) → map_after m (front ++ rest) ≡ map_after (map_after m front) rest) → IsReplayedTo names workers left before k (left_in shares) mid count → TakesPlace k shares mid k' shares' after → IsReplayedTo names workers left before k' (left_in shares') after (count + 1)
replayed_more names workers left before k k' shares shares' mid after count law legal behind r t =
    let m0 = no_records names workers in
    let m = map_after m0 r.history in
    let e = t.entry in
    let range : IsInRange (mirror m r.records) (worker_of e.0) e.1.command = subst (λ x. IsInRange x (worker_of e.0) e.1.command) r.mirrors t.range in
    let went = goes law m r.records e k' r.holds r.valid range (subst (λ x. IsTaken x (worker_of e.0) e.1.command e.1.reply k') r.mirrors t.taken) in
    let next : map_after m0 (r.history ++ e ∷ []) ≡ map_next m e = behind m0 r.history (e ∷ []) in
    record {
      history = r.history ++ e ∷ [];
      replayed = record {
        lines = r.replayed.lines ∙ ap (λ xs. map (λ x. place_line (answered x)) r.history ++ xs) t.line
            ∙ sym (append_assoc (map (λ x. place_line (answered x)) r.history) (place_line (answered e) ∷ []) after)
            ∙ ap (λ xs. xs ++ after) (sym (map-append (λ x. place_line (answered x)) r.history (e ∷ [])));
        legal = legal m0 r.history (e ∷ []) (r.replayed.legal, (went.right, tt));
        turns = λ pass. r.replayed.turns pass ∙ turn_on pass r.history e (left_in shares pass) (left_in shares' pass) (t.turn pass);
      };
      counted = omega (arith, length-append r.history (e ∷ []), r.counted);
      records = went.records;
      mirrors = went.mirrors ∙ ap (λ n. mirror n went.records) (sym next);
      holds = subst (λ n. Holds went.records n.records) (sym next) went.holds;
      valid = subst IsValid (sym next) went.valid.valid;
      names_len = ap (λ (n : RecordMap). length n.names) next ∙ went.valid.names ∙ r.names_len;
      tags_len = ap (λ (n : RecordMap). length n.tags) next ∙ went.valid.tags ∙ r.tags_len;
      few = omega (arith, ap (λ (n : RecordMap). length n.records) next, went.few, r.few);
    }

-- or none
pub replay_stops : (names workers : ℕ) (left : ℕ → List RecordEntry) (before : List (List ℕ)) (k : RecordMap) (left' : ℕ → List RecordEntry) (after : List (List ℕ)) (count : ℕ) → IsReplayedTo names workers left before k left' after count → RefusesPlace k left' after → StopsReplay names workers left before count
replay_stops names workers left before k left' after count r refused = record {
  history = r.history;
  left_then = left';
  after = after;
  replayed = r.replayed;
  counted = sym r.counted;
  refused = λ e rest first mine right.
      wrong_is_not_right (map_after (no_records names workers) r.history) r.records e r.holds r.valid
      (subst (λ x. IsWrong x (worker_of e.0) e.1.command e.1.reply) r.mirrors (refused e rest first mine)) right;
}

-- the names and the tags of the map stay as many
pub names_of : (names workers : ℕ) (left : ℕ → List RecordEntry) (before : List (List ℕ)) (k : RecordMap) (left' : ℕ → List RecordEntry) (after : List (List ℕ)) (count : ℕ) → IsReplayedTo names workers left before k left' after count → length k.names ≡ names
names_of names workers left before k left' after count r = ap (λ (x : RecordMap). length x.names) r.mirrors ∙ r.names_len
