-- The lines of the history part: which may stand, and which may not.
use Rattle.std.proofs.Common.{◌≡◌, ◌≢◌, ◌==◌, ◌↔◌, ◌⊎◌, ℕ, ◌+◌, ◌<◌, ◌≤◌, zero, suc, Bool, true, false, cond, List, [], ◌∷◌, ◌++◌, Some, map, filter, length, take, drop, refl, sym, ap, ◌∙◌, subst, arith, inl, inr, append_assoc, length-append, length-take-le}
use Rattle.std.specs.Prelude.{All, slice_get}
use Rattle.std.specs.List.Sorted.{IsStrictlySortedBy}
use Rattle.std.specs.Cmp.Lexicographic.{slice_cmp}
use Rattle.std.specs.Ordering.{nat_cmp}
use Rattle.std.proofs.Math.Seq.{take-append_seam, drop-append_seam}
use Rattle.std.proofs.lemmas.List.{take-append-drop, take-map, length-map, length-take, append_cancel_left, map-append, take-append-le}
use Rattle.kmem_text.specs.Grammar.{Plain}
use Rattle.kmem_model.specs.declared.record_entry.RecordEntry.{RecordEntry}
use Rattle.kmem_model.specs.Records.{RecordMap, no_records}
use Rattle.kmem_model.specs.History.{IsLegalHistory, IsRight, map_after, own_entries}
use Rattle.kmem_model.specs.RunLines.{place_line, reply_line}
use Rattle.kmem_model.specs.Checked.{Asked, answered, asked_by_entry, asked_in_turn, AreTold, IsReplay, HasReplay, MayStand}
use Rattle.run_check.specs.Told.{HasRead}
use Rattle.run_check.specs.Replayed.{HasReplayed, StopsReplay}
use Rattle.run_check.proofs.KeptMaps.{same_or_not, itself}
use Rattle.run_check.proofs.Replaying.{own_more, not_itself}
use Rattle.run_check.proofs.Standing.{get_behind, plus_none}
use Rattle.run_check.proofs.Unique.{Rereads, told_once, same_history}

-- the places of entries
abbrev pub places_of : List (ℕ × RecordEntry) → List (List ℕ)
places_of h = map (λ e. place_line (answered e)) h

-- what is told, as the replies part has it
pub told_are : (names : List (List ℕ)) (asked : List Asked) (told : List (ℕ × RecordEntry)) (run before after : List (List ℕ)) (a b : List ℕ) (n : ℕ) → run ≡ a ∷ b ∷ before → HasRead names asked told before after → length told ≡ n → AreTold names asked (take n (drop 2 run)) told
told_are names asked told run before after a b n run_is read len =
    let lines = map (λ e. reply_line names (answered e)) told in
    let size : length lines ≡ n = length-map told (λ e. reply_line names (answered e)) ∙ len in
    record {
      asks = read.asks;
      may = read.may;
      tells = sym (ap (λ r. take n (drop 2 r)) run_is ∙ (λ i. take (sym size i) (read.lines i)) ∙ take-append_seam lines after);
    }

-- the history part
pub history_part : (run before after rest : List (List ℕ)) (a b c : List ℕ) (xs : List (List ℕ)) (n : ℕ) → run ≡ a ∷ b ∷ before → before ≡ xs ++ after → after ≡ c ∷ rest → length xs ≡ n → drop (3 + n) run ≡ rest
history_part run before after rest a b c xs n run_is before_is after_is len =
    let count : 3 + n ≡ suc (suc (length (xs ++ c ∷ []))) = omega (arith, length-append xs (c ∷ []), len) in
    (λ i. drop (count i) (run_is i))
    ∙ ap (drop (length (xs ++ c ∷ []))) (before_is ∙ ap (λ ys. xs ++ ys) after_is ∙ sym (append_assoc xs (c ∷ []) rest))
    ∙ drop-append_seam (xs ++ c ∷ []) rest

pub own_both : (p : ℕ) (g h : List (ℕ × RecordEntry)) → own_entries p (g ++ h) ≡ own_entries p g ++ own_entries p h
own_both p [] h = refl
own_both p (x ∷ g) h = elim (x.0 == p) as (λ t. map (λ (y : ℕ × RecordEntry). y.1) (cond t (x ∷ filter (λ y. y.0 == p) (g ++ h)) (filter (λ y. y.0 == p) (g ++ h))) ≡ map (λ (y : ℕ × RecordEntry). y.1) (cond t (x ∷ filter (λ y. y.0 == p) g) (filter (λ y. y.0 == p) g)) ++ own_entries p h) [
  | true ↦ ap (λ xs. x.1 ∷ xs) (own_both p g h)
  | false ↦ own_both p g h
]

abbrev pub Splits : Type 0
Splits = (m : RecordMap) (front rest : List (ℕ × RecordEntry)) → IsLegalHistory m (front ++ rest) → IsLegalHistory m front × IsLegalHistory (map_after m front) rest

-- so many entries of a history that is replayed are a replay
pub places_stand : Splits → (workers : ℕ) (script : Plain) (run : List (List ℕ)) (told h : List (ℕ × RecordEntry)) (left left' : ℕ → List RecordEntry) (lines after : List (List ℕ)) (k : ℕ) → AreTold script.names (asked_in_turn workers script.lines) (take (length script.lines) (drop 2 run)) told → ((p : ℕ) → own_entries p told ≡ left p) → drop (3 + length script.lines) run ≡ lines → HasReplayed (length script.names) workers h left lines left' after → k ≤ length h → HasReplay workers script run k
places_stand splits workers script run told h left left' lines after k tolds fresh part r small =
    let front = take k h in
    let rest = drop k h in
    let whole : h ≡ front ++ rest = sym (take-append-drop k h) in
    let m0 = no_records (length script.names) workers in (
      told,
      front,
      tolds,
      record {
        places = sym (take-map (λ e. place_line (answered e)) k h)
            ∙ sym (take-append-le k (places_of h) after (omega (arith, small, length-map h (λ (e : ℕ × RecordEntry). place_line (answered e)))))
            ∙ ap (take k) (sym r.lines ∙ sym part);
        legal = (splits m0 front rest (subst (IsLegalHistory m0) whole r.legal)).0;
        turns = λ p. (
          own_entries p rest ++ left' p,
          fresh p ∙ r.turns p ∙ ap (λ xs. own_entries p xs ++ left' p) whole ∙ ap (λ xs. xs ++ left' p) (own_both p front rest) ∙ append_assoc (own_entries p front) (own_entries p rest) (left' p),
        );
      },
      length-take-le k h small,
    )

take_twice : {X : Type 0} (count : ℕ) (xs : List X) → take count (take (count + 1) xs) ≡ take count xs
take_twice zero xs = refl
take_twice (suc count) [] = let next : suc count + 1 ≡ suc (count + 1) = omega arith in ap (λ n. take (suc count) (take n [])) next
take_twice (suc count) (x ∷ xs) = let next : suc count + 1 ≡ suc (count + 1) = omega arith in ap (λ n. take (suc count) (take n (x ∷ xs))) next ∙ ap (λ ys. x ∷ ys) (take_twice count xs)

-- the last of some entries
last_is : (h : List (ℕ × RecordEntry)) (count : ℕ) → length h ≡ count + 1 → (e : ℕ × RecordEntry) × (h ≡ take count h ++ e ∷ [])
last_is [] count len = absurd (omega arith)
last_is (x ∷ []) zero len = (x, refl)
last_is (x ∷ y ∷ h) zero len = absurd (omega arith)
last_is (x ∷ h) (suc count) len = let rest = last_is h count (omega arith) in (rest.0, ap (λ xs. x ∷ xs) rest.1)

get_take : {X : Type 0} (xs : List X) (m k : ℕ) → k < m → slice_get (take m xs) k ≡ slice_get xs k
get_take [] zero k small = refl
get_take [] (suc m) k small = refl
get_take (x ∷ xs) zero k small = absurd (omega arith)
get_take (x ∷ xs) (suc m) zero small = refl
get_take (x ∷ xs) (suc m) (suc k) small = get_take xs m k (omega arith)

-- the line at which the replay stops may not stand there
pub place_refused : Rereads → Splits → (workers : ℕ) (script : Plain) (run : List (List ℕ)) (told : List (ℕ × RecordEntry)) (left : ℕ → List RecordEntry) (lines : List (List ℕ)) (count : ℕ) → IsStrictlySortedBy (slice_cmp nat_cmp) script.names → AreTold script.names (asked_in_turn workers script.lines) (take (length script.lines) (drop 2 run)) told → ((p : ℕ) → own_entries p told ≡ left p) → ((p : ℕ) (e : RecordEntry) (rest : List RecordEntry) → left p ≡ e ∷ rest → p < 16) → drop (3 + length script.lines) run ≡ lines → StopsReplay (length script.names) workers left lines count → HasReplay workers script run (count + 1) → ⊥
place_refused rereads splits workers script run told left lines count sorted tolds fresh few part s r =
    let m0 = no_records (length script.names) workers in
    let told' = r.0 in
    let h' = r.1 in
    let replay = r.3 in
    let same_told : told' ≡ told = told_once rereads script.names (asked_in_turn workers script.lines) (take (length script.lines) (drop 2 run)) told' told sorted r.2 tolds in
    let last = last_is h' count r.4 in
    let e = last.0 in
    let h0 = take count h' in
    let size : length (places_of s.history) ≡ count = length-map s.history (λ (e : ℕ × RecordEntry). place_line (answered e)) ∙ sym s.counted in
    let places : places_of h' ≡ take (count + 1) (places_of s.history ++ s.after) = replay.places ∙ ap (take (count + 1)) (part ∙ s.replayed.lines) in
    let front : places_of h0 ≡ places_of s.history =
    sym (take-map (λ e. place_line (answered e)) count h') ∙ ap (take count) places
    ∙ take_twice count (places_of s.history ++ s.after)
    ∙ ap (λ n. take n (places_of s.history ++ s.after)) (sym size) ∙ take-append_seam (places_of s.history) s.after in
    let first : slice_get s.after 0 ≡ Some (place_line (answered e)) =
    sym (get_behind (places_of s.history) s.after 0)
    ∙ ap (slice_get (places_of s.history ++ s.after)) (plus_none (length (places_of s.history)) ∙ size)
    ∙ sym (get_take (places_of s.history ++ s.after) (count + 1) count (omega arith))
    ∙ ap (λ xs. slice_get xs count) (sym places)
    ∙ ap (λ xs. slice_get (places_of xs) count) last.1
    ∙ ap (λ xs. slice_get xs count) (map-append (λ e. place_line (answered e)) h0 (e ∷ []))
    ∙ ap (slice_get (places_of h0 ++ place_line (answered e) ∷ [])) (sym (ap length front ∙ size) ∙ sym (plus_none (length (places_of h0))))
    ∙ get_behind (places_of h0) (place_line (answered e) ∷ []) 0 in
    let rests = λ (p : ℕ). (replay.turns p).0 in
    let turns : (p : ℕ) → left p ≡ own_entries p h0 ++ (cond (e.0 == p) (e.1 ∷ []) [] ++ rests p) = λ p.
    sym (fresh p) ∙ ap (own_entries p) (sym same_told) ∙ (replay.turns p).1 ∙ ap (λ xs. own_entries p xs ++ rests p) last.1
    ∙ ap (λ xs. xs ++ rests p) (own_more p h0 e (e.0 == p) refl) ∙ append_assoc (own_entries p h0) (cond (e.0 == p) (e.1 ∷ []) []) (rests p) in
    let same : h0 ≡ s.history = same_history left (λ p. cond (e.0 == p) (e.1 ∷ []) [] ++ rests p) s.left_then h0 s.history few front turns s.replayed.turns in
    let mine : s.left_then e.0 ≡ e.1 ∷ rests e.0 =
    append_cancel_left (own_entries e.0 s.history) (s.left_then e.0) (e.1 ∷ rests e.0)
    (sym (s.replayed.turns e.0) ∙ turns e.0 ∙ ap (λ xs. own_entries e.0 xs ++ (cond (e.0 == e.0) (e.1 ∷ []) [] ++ rests e.0)) same
    ∙ ap (λ b. own_entries e.0 s.history ++ (cond b (e.1 ∷ []) [] ++ rests e.0)) (itself e.0)) in
    let legal = (splits m0 h0 (e ∷ []) (subst (IsLegalHistory m0) last.1 replay.legal)).1 in
    s.refused e (rests e.0) first mine (subst (λ xs. IsRight (map_after m0 xs) e) same legal.0)
