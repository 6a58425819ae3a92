-- Which lines of a run may stand where they do.
use Rattle.std.proofs.Common.{◌≡◌, ◌≢◌, ℕ, ◌+◌, ◌-◌, ◌<◌, ◌≤◌, zero, suc, List, [], ◌∷◌, ◌++◌, Option, Some, None, map, length, take, drop, refl, sym, ap, ◌∙◌, subst, arith, inl, inr, append_assoc, length-append}
use Rattle.std.specs.Prelude.{All, slice_get}
use Rattle.std.proofs.Math.Seq.{take-append_seam, drop-append_seam}
use Rattle.std.proofs.lemmas.Bool.{cases_lt}
use Rattle.std.proofs.lemmas.List.{length-map}
use Rattle.std.proofs.lemmas.Option.{same_Some}
use Rattle.kmem_text.specs.Grammar.{Plain}
use Rattle.kmem_text.specs.ReplyRows.{IsReplyTo}
use Rattle.kmem_model.specs.declared.record_entry.RecordEntry.{RecordEntry}
use Rattle.kmem_model.specs.RunLines.{reply_line}
use Rattle.kmem_model.specs.Checked.{Asked, answered, asked_by_entry, asked_in_turn, TellsReply, AreTold, HasReplay, MayStand, StandUpTo, run_header, replies_header, history_header, report_header}
use Rattle.run_check.specs.Told.{HasRead, StopsReading}

module _ (workers : ℕ) (script : Plain) (run : List (List ℕ)) (n : ℕ) where
  pub stand_opens : (i : ℕ) → i ≡ 0 → slice_get run 0 ≡ Some run_header → MayStand workers script run n i
  stand_opens i at h = record {
    opens = λ e. ap (slice_get run) at ∙ h;
    replies = λ e. absurd (omega arith);
    reply = λ k small e. absurd (omega arith);
    history = λ e. absurd (omega arith);
    place = λ k small e. absurd (omega arith);
    report = λ e. absurd (omega arith);
  }

  pub stand_replies : (i : ℕ) → i ≡ 1 → slice_get run 1 ≡ Some replies_header → MayStand workers script run n i
  stand_replies i at h = record {
    opens = λ e. absurd (omega arith);
    replies = λ e. ap (slice_get run) at ∙ h;
    reply = λ k small e. absurd (omega arith);
    history = λ e. absurd (omega arith);
    place = λ k small e. absurd (omega arith);
    report = λ e. absurd (omega arith);
  }

  pub stand_reply : (i k : ℕ) → i ≡ 2 + k → k < n → (asked : Asked) (line : List ℕ) → slice_get (asked_in_turn workers script.lines) k ≡ Some asked → slice_get run i ≡ Some line → TellsReply script.names asked line → MayStand workers script run n i
  stand_reply i k at within asked line is there tells = record {
    opens = λ e. absurd (omega arith);
    replies = λ e. absurd (omega arith);
    reply = λ j small e. let same : k ≡ j = omega arith in (asked, line, ap (slice_get (asked_in_turn workers script.lines)) (sym same) ∙ is, there, tells);
    history = λ e. absurd (omega arith);
    place = λ j small e. absurd (omega arith);
    report = λ e. absurd (omega arith);
  }

  pub stand_history : (i : ℕ) → i ≡ 2 + n → slice_get run i ≡ Some history_header → MayStand workers script run n i
  stand_history i at h = record {
    opens = λ e. absurd (omega arith);
    replies = λ e. absurd (omega arith);
    reply = λ k small e. absurd (omega arith);
    history = λ e. h;
    place = λ k small e. absurd (omega arith);
    report = λ e. absurd (omega arith);
  }

  pub stand_place : (i k : ℕ) → i ≡ 3 + n + k → k < n → HasReplay workers script run (k + 1) → MayStand workers script run n i
  stand_place i k at within h = record {
    opens = λ e. absurd (omega arith);
    replies = λ e. absurd (omega arith);
    reply = λ j small e. absurd (omega arith);
    history = λ e. absurd (omega arith);
    place = λ j small e. let same : k + 1 ≡ j + 1 = omega arith in subst (HasReplay workers script run) same h;
    report = λ e. absurd (omega arith);
  }

  pub stand_report : (i : ℕ) → i ≡ 3 + n + n → slice_get run i ≡ Some report_header → MayStand workers script run n i
  stand_report i at h = record {
    opens = λ e. absurd (omega arith);
    replies = λ e. absurd (omega arith);
    reply = λ k small e. absurd (omega arith);
    history = λ e. absurd (omega arith);
    place = λ k small e. absurd (omega arith);
    report = λ e. h;
  }

-- one line more
pub stand_more : (P : ℕ → Type 0) (i j : ℕ) → j ≡ i + 1 → ((k : ℕ) → k < i → P k) → P i → (k : ℕ) → k < j → P k
stand_more P i j at below here k small = elim (cases_lt k i) [
  | inl h ↦ below k h
  | inr h ↦ let same : i ≡ k = omega arith in subst P same here
]

pub plus_none : (k : ℕ) → k + 0 ≡ k
plus_none k = omega arith

-- what stands behind a part
pub get_behind : {X : Type 0} (xs ys : List X) (k : ℕ) → slice_get (xs ++ ys) (length xs + k) ≡ slice_get ys k
get_behind [] ys k = let zero_more : 0 + k ≡ k = omega arith in ap (slice_get ys) zero_more
get_behind (x ∷ xs) ys k = let next : suc (length xs) + k ≡ suc (length xs + k) = omega arith in ap (slice_get (x ∷ (xs ++ ys))) next ∙ get_behind xs ys k

-- an element, and what two lists that are made of it have at its place
nth : {X A B : Type 0} (P : X → Type 0) (f : X → A) (g : X → B) (xs : List X) (us : List A) (bs : List B) (k : ℕ) → All P xs → k < length xs → (x : X) × P x × (slice_get (map f xs ++ us) k ≡ Some (f x)) × (slice_get (map g xs ++ bs) k ≡ Some (g x))
nth P f g [] us bs k all small = absurd (omega arith)
nth P f g (x ∷ xs) us bs zero all small = (x, all 0 x small, refl, refl)
nth P f g (x ∷ xs) us bs (suc k) all small = nth P f g xs us bs k (λ j d within. all (suc j) d (omega arith)) (omega arith)

-- the lines of a run behind its first two
pub behind_two : {X : Type 0} (a b : X) (xs : List X) (k : ℕ) → slice_get (a ∷ b ∷ xs) (2 + k) ≡ slice_get xs k
behind_two a b xs k = let next : 2 + k ≡ suc (suc k) = omega arith in ap (slice_get (a ∷ b ∷ xs)) next

-- the lines that tell replies may stand there
pub replies_stand : (workers : ℕ) (script : Plain) (run : List (List ℕ)) (n : ℕ) (a b : List ℕ) (front more : List Asked) (told : List (ℕ × RecordEntry)) (before after : List (List ℕ)) → run ≡ a ∷ b ∷ before → asked_in_turn workers script.lines ≡ front ++ more → HasRead script.names front told before after → length told ≤ n → (k : ℕ) → k < length told → MayStand workers script run n (2 + k)
replies_stand workers script run n a b front more told before after run_is asked_is read fits k small =
    let found = nth (λ (e : ℕ × RecordEntry). IsReplyTo (length script.names) e.1.command e.1.reply) asked_by_entry (λ e. reply_line script.names (answered e)) told more after k read.may small in
    let e = found.0 in
    stand_reply workers script run n (2 + k) k refl (omega arith) (asked_by_entry e) (reply_line script.names (answered e))
    (ap (λ xs. slice_get xs k) (asked_is ∙ ap (λ xs. xs ++ more) (sym read.asks)) ∙ found.2)
    (ap (λ xs. slice_get xs (2 + k)) run_is ∙ behind_two a b before k ∙ ap (λ xs. slice_get xs k) read.lines ∙ found.3)
    (e.1.reply, found.1, refl)

-- the line at which reading stops may not
pub reply_refused : (workers : ℕ) (script : Plain) (run : List (List ℕ)) (n : ℕ) (a b : List ℕ) (before : List (List ℕ)) (count : ℕ) → run ≡ a ∷ b ∷ before → (s : StopsReading script.names (asked_in_turn workers script.lines) before count) → count < n → MayStand workers script run n (2 + count) → ⊥
reply_refused workers script run n a b before count run_is s small m =
    let r = m.reply count small refl in
    let len : length s.front ≡ count = sym (ap length s.read.asks) ∙ length-map s.told asked_by_entry ∙ sym s.counted in
    let here : slice_get (asked_in_turn workers script.lines) count ≡ Some s.next =
    ap (λ xs. slice_get xs count) s.whole ∙ ap (slice_get (s.front ++ s.next ∷ s.more)) (sym len ∙ sym (plus_none (length s.front))) ∙ get_behind s.front (s.next ∷ s.more) 0 in
    let next : r.0 ≡ s.next = same_Some r.0 s.next (sym r.2 ∙ here) in
    let told_len : length (map (λ e. reply_line script.names (answered e)) s.told) ≡ count = length-map s.told (λ e. reply_line script.names (answered e)) ∙ sym s.counted in
    let line : slice_get s.after 0 ≡ Some r.1 =
    sym (get_behind (map (λ e. reply_line script.names (answered e)) s.told) s.after 0)
    ∙ ap (slice_get (map (λ e. reply_line script.names (answered e)) s.told ++ s.after)) (plus_none _ ∙ told_len)
    ∙ ap (λ xs. slice_get xs count) (sym s.read.lines)
    ∙ sym (behind_two a b before count) ∙ ap (λ xs. slice_get xs (2 + count)) (sym run_is) ∙ r.3 in
    s.refused r.1 line (subst (λ x. TellsReply script.names x r.1) next r.4)

pub stop_small : (names : List (List ℕ)) (asked : List Asked) (before : List (List ℕ)) (count : ℕ) → StopsReading names asked before count → count < length asked
stop_small names asked before count s =
    omega (arith, ap length s.whole, length-append s.front (s.next ∷ s.more), ap length s.read.asks, length-map s.told asked_by_entry, s.counted)
