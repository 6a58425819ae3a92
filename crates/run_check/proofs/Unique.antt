-- What is told is told once, and a history is fixed by its places and by what is told.
use Rattle.std.proofs.Common.{◌≡◌, ◌≢◌, ◌==◌, ◌↔◌, ◌⊎◌, ℕ, ◌+◌, ◌<◌, ◌≤◌, zero, suc, Bool, true, false, cond, List, [], ◌∷◌, ◌++◌, Some, map, filter, length, take, drop, refl, sym, ap, ◌∙◌, subst, arith, inl, inr, append_assoc, length-append}
use Rattle.std.specs.Prelude.{All, slice_get}
use Rattle.std.specs.List.Sorted.{IsStrictlySortedBy}
use Rattle.std.specs.Cmp.Lexicographic.{slice_cmp}
use Rattle.std.specs.Ordering.{nat_cmp}
use Rattle.std.proofs.Math.Seq.{take-append_seam, drop-append_seam}
use Rattle.std.proofs.lemmas.List.{take-append-drop, take-map, length-map, length-take, append_cancel_left, map-append, take-append-le, take_all}
use Rattle.kmem_text.specs.Grammar.{Plain}
use Rattle.kmem_text.specs.Replies.{reply_text}
use Rattle.kmem_text.specs.ReplyRows.{IsReplyTo}
use Rattle.kmem_text.specs.declared.command.Command.{Command}
use Rattle.kmem_text.specs.declared.command.Reply.{Reply}
use Rattle.kmem_model.specs.declared.record_entry.RecordEntry.{RecordEntry}
use Rattle.kmem_model.specs.Records.{RecordMap, no_records}
use Rattle.kmem_model.specs.History.{IsLegalHistory, IsRight, map_after, own_entries}
use Rattle.kmem_model.specs.RunLines.{place_line, reply_line}
use Rattle.kmem_model.specs.Checked.{Asked, answered, asked_by_entry, asked_in_turn, AreTold, IsReplay, HasReplay, MayStand}
use Rattle.run_check.specs.Told.{HasRead}
use Rattle.run_check.specs.Replayed.{HasReplayed, StopsReplay}
use Rattle.run_check.proofs.KeptMaps.{same_or_not, itself}
use Rattle.run_check.proofs.Placed.{pass_same}
use Rattle.run_check.proofs.Replaying.{own_more, not_itself}
use Rattle.run_check.proofs.Standing.{get_behind, plus_none}

-- What is told

abbrev pub Rereads : Type 0
Rereads = (names : List (List ℕ)) (command : Command) (reply other : Reply) → IsStrictlySortedBy (slice_cmp nat_cmp) names → IsReplyTo (length names) command reply → IsReplyTo (length names) command other → reply_text names reply ≡ reply_text names other → reply ≡ other

heads : {X : Type 0} (x y : X) (xs ys : List X) → x ∷ xs ≡ y ∷ ys → (x ≡ y) × (xs ≡ ys)
heads x y xs ys h = (cc, cc)

same_entry : Rereads → (names : List (List ℕ)) → IsStrictlySortedBy (slice_cmp nat_cmp) names → (e f : ℕ × RecordEntry) → asked_by_entry e ≡ asked_by_entry f → reply_line names (answered e) ≡ reply_line names (answered f) → IsReplyTo (length names) e.1.command e.1.reply → IsReplyTo (length names) f.1.command f.1.reply → e ≡ f
same_entry law names sorted e f asks line may may' =
    let pass : e.0 ≡ f.0 = ap (λ (a : Asked). a.pass) asks in
    let number : e.1.number ≡ f.1.number = ap (λ (a : Asked). a.number) asks in
    let command : e.1.command ≡ f.1.command = ap (λ (a : Asked). a.command) asks in
    let place : place_line (answered e) ≡ place_line (answered f) = λ i. place_line (record { worker = pass i + 1; number = number i; reply = e.1.reply }) in
    let text : reply_text names e.1.reply ≡ reply_text names f.1.reply =
    (heads 32 32 _ _ (append_cancel_left (place_line (answered e)) (32 ∷ reply_text names e.1.reply) (32 ∷ reply_text names f.1.reply) (line ∙ ap (λ xs. xs ++ 32 ∷ reply_text names f.1.reply) (sym place)))).1 in
    let reply : e.1.reply ≡ f.1.reply = law names e.1.command e.1.reply f.1.reply sorted may (subst (λ c. IsReplyTo (length names) c f.1.reply) (sym command) may') text in
    λ i. (pass i, record { number = number i; command = command i; reply = reply i })

same_told : Rereads → (names : List (List ℕ)) → IsStrictlySortedBy (slice_cmp nat_cmp) names → (told told' : List (ℕ × RecordEntry)) → map asked_by_entry told ≡ map asked_by_entry told' → map (λ e. reply_line names (answered e)) told ≡ map (λ e. reply_line names (answered e)) told' → All (λ (e : ℕ × RecordEntry). IsReplyTo (length names) e.1.command e.1.reply) told → All (λ (e : ℕ × RecordEntry). IsReplyTo (length names) e.1.command e.1.reply) told' → told ≡ told'
same_told law names sorted [] [] asks lines may may' = refl
same_told law names sorted [] (f ∷ told') asks lines may may' = absurd (omega (arith, ap length asks))
same_told law names sorted (e ∷ told) [] asks lines may may' = absurd (omega (arith, ap length asks))
same_told law names sorted (e ∷ told) (f ∷ told') asks lines may may' =
    let asked = heads (asked_by_entry e) (asked_by_entry f) _ _ asks in
    let line = heads (reply_line names (answered e)) (reply_line names (answered f)) _ _ lines in
    let first = same_entry law names sorted e f asked.0 line.0 (may 0 e (omega arith)) (may' 0 f (omega arith)) in
    let rest = same_told law names sorted told told' asked.1 line.1 (λ k d small. may (suc k) d (omega arith)) (λ k d small. may' (suc k) d (omega arith)) in
    λ i. first i ∷ rest i

pub told_once : Rereads → (names : List (List ℕ)) (asked : List Asked) (lines : List (List ℕ)) (told told' : List (ℕ × RecordEntry)) → IsStrictlySortedBy (slice_cmp nat_cmp) names → AreTold names asked lines told → AreTold names asked lines told' → told ≡ told'
told_once law names asked lines told told' sorted h k = same_told law names sorted told told' (h.asks ∙ sym k.asks) (h.tells ∙ sym k.tells) h.may k.may

-- Histories

own_here : (p : ℕ) (e : ℕ × RecordEntry) (h : List (ℕ × RecordEntry)) → e.0 ≡ p → own_entries p (e ∷ h) ≡ e.1 ∷ own_entries p h
own_here p e h is = ap (λ b. map (λ (x : ℕ × RecordEntry). x.1) (cond b (e ∷ filter (λ x. x.0 == p) h) (filter (λ x. x.0 == p) h))) (ap (λ n. n == p) is ∙ itself p)

own_there : (p : ℕ) (e : ℕ × RecordEntry) (h : List (ℕ × RecordEntry)) → p ≢ e.0 → own_entries p (e ∷ h) ≡ own_entries p h
own_there p e h other = ap (λ b. map (λ (x : ℕ × RecordEntry). x.1) (cond b (e ∷ filter (λ x. x.0 == p) h) (filter (λ x. x.0 == p) h))) (not_itself p e.0 other)

-- the entries of each pass but the first of this one
abbrev pub after_turn : (ℕ → List RecordEntry) → ℕ → ℕ → List RecordEntry
after_turn T p q = cond (q == p) (drop 1 (T q)) (T q)

pub turn_first : (T r : ℕ → List RecordEntry) (e : ℕ × RecordEntry) (h : List (ℕ × RecordEntry)) → ((p : ℕ) → T p ≡ own_entries p (e ∷ h) ++ r p) → T e.0 ≡ e.1 ∷ (own_entries e.0 h ++ r e.0)
turn_first T r e h turns = turns e.0 ∙ ap (λ xs. xs ++ r e.0) (own_here e.0 e h refl)

pub turn_rest : (T r : ℕ → List RecordEntry) (e : ℕ × RecordEntry) (h : List (ℕ × RecordEntry)) (p0 : ℕ) → e.0 ≡ p0 → ((p : ℕ) → T p ≡ own_entries p (e ∷ h) ++ r p) → (p : ℕ) → after_turn T p0 p ≡ own_entries p h ++ r p
turn_rest T r e h p0 is turns p = elim (same_or_not p p0) [
  | inl s ↦
      ap (λ b. cond b (drop 1 (T p)) (T p)) s.1
      ∙ ap (drop 1) (turns p ∙ ap (λ xs. xs ++ r p) (own_here p e h (is ∙ sym s.0)))
  | inr s ↦
      ap (λ b. cond b (drop 1 (T p)) (T p)) s.1
      ∙ turns p ∙ ap (λ xs. xs ++ r p) (own_there p e h (λ q. s.0 (q ∙ is)))
]

pub turn_few : (T : ℕ → List RecordEntry) (p0 : ℕ) → p0 < 16 → ((p : ℕ) (e : RecordEntry) (rest : List RecordEntry) → T p ≡ e ∷ rest → p < 16) → (p : ℕ) (e : RecordEntry) (rest : List RecordEntry) → after_turn T p0 p ≡ e ∷ rest → p < 16
turn_few T p0 small few p e rest is = elim (same_or_not p p0) [
  | inl s ↦ omega arith
  | inr s ↦ few p e rest (sym (ap (λ b. cond b (drop 1 (T p)) (T p)) s.1) ∙ is)
]

pub same_history : (T r r' : ℕ → List RecordEntry) (h h' : List (ℕ × RecordEntry)) → ((p : ℕ) (e : RecordEntry) (rest : List RecordEntry) → T p ≡ e ∷ rest → p < 16) → map (λ e. place_line (answered e)) h ≡ map (λ e. place_line (answered e)) h' → ((p : ℕ) → T p ≡ own_entries p h ++ r p) → ((p : ℕ) → T p ≡ own_entries p h' ++ r' p) → h ≡ h'
same_history T r r' [] [] few places turns turns' = refl
same_history T r r' [] (f ∷ h') few places turns turns' = absurd (omega (arith, ap length places))
same_history T r r' (e ∷ h) [] few places turns turns' = absurd (omega (arith, ap length places))
same_history T r r' (e ∷ h) (f ∷ h') few places turns turns' =
    let parts = heads (place_line (answered e)) (place_line (answered f)) _ _ places in
    let mine = turn_first T r e h turns in
    let its = turn_first T r' f h' turns' in
    let small = few e.0 e.1 _ mine in
    let pass : e.0 ≡ f.0 = pass_same e.0 f.0 e.1 f.1 small (few f.0 f.1 _ its) parts.0 in
    let entry : e.1 ≡ f.1 = (heads e.1 f.1 _ _ (sym mine ∙ ap T pass ∙ its)).0 in
    let rest = same_history (after_turn T e.0) r r' h h' (turn_few T e.0 small few) parts.1 (turn_rest T r e h e.0 refl turns) (turn_rest T r' f h' e.0 (sym pass) turns') in
    λ i. (pass i, entry i) ∷ rest i
