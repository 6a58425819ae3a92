-- The walk through a run: how far its lines stand after each part, and the first that doesn't.
use Rattle.std.proofs.Common.{◌≡◌, ◌≢◌, ℕ, ◌+◌, ◌-◌, ◌<◌, ◌≤◌, zero, suc, List, [], ◌∷◌, ◌++◌, Some, map, length, take, drop, refl, sym, ap, ◌∙◌, subst, arith, inl, inr, append-nil}
use Rattle.std.specs.Prelude.{All, slice_get}
use Rattle.std.specs.List.Sorted.{IsStrictlySortedBy}
use Rattle.std.specs.Cmp.Lexicographic.{slice_cmp}
use Rattle.std.specs.Ordering.{nat_cmp}
use Rattle.std.proofs.lemmas.Bool.{cases_lt}
use Rattle.std.proofs.lemmas.List.{length-map}
use Rattle.kmem_text.specs.Grammar.{Plain}
use Rattle.kmem_text.specs.Scripts.{IsScript}
use Rattle.kmem_model.specs.declared.record_entry.RecordEntry.{RecordEntry}
use Rattle.kmem_model.specs.History.{own_entries}
use Rattle.kmem_model.specs.RunLines.{reply_line, place_line}
use Rattle.kmem_model.specs.Checked.{Asked, answered, asked_by_entry, asked_in_turn, AreTold, MayStand, StandUpTo, IsFirstRefused, run_header, replies_header, history_header, report_header}
use Rattle.run_check.specs.Told.{HasRead, StopsReading}
use Rattle.run_check.specs.Replayed.{HasReplayed, StopsReplay}
use Rattle.run_check.proofs.Standing.{stand_opens, stand_replies, stand_history, stand_place, stand_report, stand_more, get_behind, plus_none, behind_two, replies_stand, reply_refused, stop_small}
use Rattle.run_check.proofs.Unique.{Rereads}
use Rattle.run_check.proofs.PlacesStand.{Splits, places_of, told_are, history_part, places_stand, place_refused}
use Rattle.run_check.proofs.Totals.{all_asked}

-- after the replies so far
up_to_replies : (workers : ℕ) (script : Plain) (run : List (List ℕ)) (front more : List Asked) (told : List (ℕ × RecordEntry)) (before after : List (List ℕ)) → run ≡ run_header ∷ replies_header ∷ before → asked_in_turn workers script.lines ≡ front ++ more → HasRead script.names front told before after → length told ≤ length script.lines → StandUpTo workers script run (2 + length told)
up_to_replies workers script run front more told before after run_is asked_is read fits zero small = stand_opens workers script run (length script.lines) 0 refl (ap (λ xs. slice_get xs 0) run_is)
up_to_replies workers script run front more told before after run_is asked_is read fits (suc zero) small = stand_replies workers script run (length script.lines) 1 refl (ap (λ xs. slice_get xs 1) run_is)
up_to_replies workers script run front more told before after run_is asked_is read fits (suc (suc k)) small =
    let at : 2 + k ≡ suc (suc k) = omega arith in
    subst (MayStand workers script run (length script.lines)) at
    (replies_stand workers script run (length script.lines) run_header replies_header front more told before after run_is asked_is read fits k (omega arith))

-- as many are told as there are commands
pub told_len : (workers : ℕ) (script : Plain) (told : List (ℕ × RecordEntry)) (before after : List (List ℕ)) → IsScript workers script → HasRead script.names (asked_in_turn workers script.lines) told before after → length told ≡ length script.lines
told_len workers script told before after is read = sym (length-map told asked_by_entry) ∙ ap length read.asks ∙ all_asked workers script.lines is.workers

abbrev replies_of : List (List ℕ) → List (ℕ × RecordEntry) → List (List ℕ)
replies_of names told = map (λ e. reply_line names (answered e)) told

behind_replies : (names : List (List ℕ)) (run before after : List (List ℕ)) (asked : List Asked) (told : List (ℕ × RecordEntry)) (n k : ℕ) → run ≡ run_header ∷ replies_header ∷ before → HasRead names asked told before after → length told ≡ n → slice_get run (2 + (n + k)) ≡ slice_get after k
behind_replies names run before after asked told n k run_is read len =
    let size : length (replies_of names told) ≡ n = length-map told (λ e. reply_line names (answered e)) ∙ len in
    ap (λ xs. slice_get xs (2 + (n + k))) run_is ∙ behind_two run_header replies_header before (n + k)
    ∙ (λ i. slice_get (read.lines i) (sym size i + k)) ∙ get_behind (replies_of names told) after k

-- reading the replies stops
pub refused_in_replies : (workers : ℕ) (script : Plain) (run before : List (List ℕ)) (taken0 taken line count : ℕ) → IsScript workers script → run ≡ run_header ∷ replies_header ∷ before → taken ≡ taken0 + 2 → line ≡ taken + count + 1 → StopsReading script.names (asked_in_turn workers script.lines) before count → IsFirstRefused workers script run taken0 line
refused_in_replies workers script run before taken0 taken line count is run_is counted at s =
    let small : count < length script.lines = omega (arith, stop_small script.names (asked_in_turn workers script.lines) before count s, all_asked workers script.lines is.workers) in
    let stand = up_to_replies workers script run s.front (s.next ∷ s.more) s.told before s.after run_is s.whole s.read (omega (arith, s.counted, small)) in (
      2 + count,
      omega arith,
      omega arith,
      subst (λ k. StandUpTo workers script run (2 + k)) (sym s.counted) stand,
      reply_refused workers script run (length script.lines) run_header replies_header before count run_is s small,
    )

-- all replies are read
pub record IsPastReplies (workers : ℕ) (script : Plain) (run : List (List ℕ)) (told : List (ℕ × RecordEntry)) (before after : List (List ℕ)) : Type 0 where
  pub is : IsScript workers script
  pub run_is : run ≡ run_header ∷ replies_header ∷ before
  pub read : HasRead script.names (asked_in_turn workers script.lines) told before after

past_replies : (workers : ℕ) (script : Plain) (run : List (List ℕ)) (told : List (ℕ × RecordEntry)) (before after : List (List ℕ)) → IsPastReplies workers script run told before after → StandUpTo workers script run (2 + length script.lines)
past_replies workers script run told before after p =
    let len = told_len workers script told before after p.is p.read in
    subst (λ k. StandUpTo workers script run (2 + k)) len
    (up_to_replies workers script run (asked_in_turn workers script.lines) [] told before after p.run_is (sym (append-nil (asked_in_turn workers script.lines))) p.read (omega (arith, len)))

-- the history's header isn't there
pub refused_at_history : (workers : ℕ) (script : Plain) (run before after : List (List ℕ)) (told : List (ℕ × RecordEntry)) (taken0 taken taken' line : ℕ) → IsScript workers script → run ≡ run_header ∷ replies_header ∷ before → HasRead script.names (asked_in_turn workers script.lines) told before after → taken ≡ taken0 + 2 → taken' ≡ taken + length told → line ≡ taken' + 1 → slice_get after 0 ≢ Some history_header → IsFirstRefused workers script run taken0 line
refused_at_history workers script run before after told taken0 taken taken' line is run_is read counted counted' at none =
    let n = length script.lines in
    let len = told_len workers script told before after is read in (
      2 + n,
      omega (arith, len),
      omega arith,
      past_replies workers script run told before after (record { is = is; run_is = run_is; read = read }),
      λ m. none (sym (behind_replies script.names run before after (asked_in_turn workers script.lines) told n 0 run_is read len)
          ∙ ap (λ k. slice_get run (2 + k)) (plus_none n) ∙ m.history refl),
    )

-- the lines of the history part so far
up_to_places : Splits → (workers : ℕ) (script : Plain) (run before after places rest : List (List ℕ)) (told h : List (ℕ × RecordEntry)) (left left' : ℕ → List RecordEntry) → IsPastReplies workers script run told before after → ((p : ℕ) → own_entries p told ≡ left p) → after ≡ history_header ∷ places → HasReplayed (length script.names) workers h left places left' rest → length h ≤ length script.lines → StandUpTo workers script run (3 + length script.lines + length h)
up_to_places splits workers script run before after places rest told h left left' p fresh after_is r fits i small =
    let n = length script.lines in
    let len = told_len workers script told before after p.is p.read in
    let header : slice_get run (2 + n) ≡ Some history_header =
    ap (λ k. slice_get run (2 + k)) (sym (plus_none n)) ∙ behind_replies script.names run before after (asked_in_turn workers script.lines) told n 0 p.run_is p.read len ∙ ap (λ xs. slice_get xs 0) after_is in
    elim (cases_lt i (3 + n)) [
      | inl below ↦ stand_more (MayStand workers script run n) (2 + n) (3 + n) (omega arith) (past_replies workers script run told before after p) (stand_history workers script run n (2 + n) refl header) i below
      | inr over ↦
          let k : ℕ = i - (3 + n) in
          let at : i ≡ 3 + n + k = omega arith in
          stand_place workers script run n i k at (omega arith)
          (places_stand splits workers script run told h left left' places rest (k + 1)
          (told_are script.names (asked_in_turn workers script.lines) told run before after run_header replies_header n p.run_is p.read len) fresh
          (history_part run before after places run_header replies_header history_header (replies_of script.names told) n p.run_is p.read.lines after_is (length-map told (λ e. reply_line script.names (answered e)) ∙ len)) r (omega arith))
    ]

-- the replay stops
pub refused_in_history : Rereads → Splits → (workers : ℕ) (script : Plain) (run before after places : List (List ℕ)) (told : List (ℕ × RecordEntry)) (left : ℕ → List RecordEntry) (taken0 taken taken' taken'' line count : ℕ) → IsScript workers script → run ≡ run_header ∷ replies_header ∷ before → HasRead script.names (asked_in_turn workers script.lines) told before after → ((p : ℕ) → own_entries p told ≡ left p) → ((p : ℕ) (e : RecordEntry) (rest : List RecordEntry) → left p ≡ e ∷ rest → p < 16) → after ≡ history_header ∷ places → taken ≡ taken0 + 2 → taken' ≡ taken + length told → taken'' ≡ taken' + 1 → count < length script.lines → line ≡ taken'' + count + 1 → StopsReplay (length script.names) workers left places count → IsFirstRefused workers script run taken0 line
refused_in_history rereads splits workers script run before after places told left taken0 taken taken' taken'' line count is run_is read fresh few after_is counted counted' counted'' small at s =
    let n = length script.lines in
    let len = told_len workers script told before after is read in
    let stand = up_to_places splits workers script run before after places s.after told s.history left s.left_then (record { is = is; run_is = run_is; read = read }) fresh after_is s.replayed (omega (arith, s.counted)) in (
      3 + n + count,
      omega (arith, len),
      omega arith,
      subst (λ k. StandUpTo workers script run (3 + n + k)) (sym s.counted) stand,
      λ m. place_refused rereads splits workers script run told left places count is.sorted
          (told_are script.names (asked_in_turn workers script.lines) told run before after run_header replies_header n run_is read len) fresh few
          (history_part run before after places run_header replies_header history_header (replies_of script.names told) n run_is read.lines after_is (length-map told (λ e. reply_line script.names (answered e)) ∙ len)) s (m.place count small refl),
    )

-- what stands behind the history
behind_history : (names : List (List ℕ)) (run before after places rest : List (List ℕ)) (asked : List Asked) (told h : List (ℕ × RecordEntry)) (n : ℕ) → run ≡ run_header ∷ replies_header ∷ before → HasRead names asked told before after → length told ≡ n → after ≡ history_header ∷ places → places ≡ places_of h ++ rest → length h ≡ n → slice_get run (3 + n + n) ≡ slice_get rest 0
behind_history names run before after places rest asked told h n run_is read len after_is places_is size =
    let at : 3 + n + n ≡ 2 + (n + suc n) = omega arith in
    let places_len : length (places_of h) + 0 ≡ n = plus_none (length (places_of h)) ∙ length-map h (λ (e : ℕ × RecordEntry). place_line (answered e)) ∙ size in
    ap (slice_get run) at ∙ behind_replies names run before after asked told n (suc n) run_is read len
    ∙ ap (λ xs. slice_get xs (suc n)) after_is ∙ (λ i. slice_get (places_is i) (sym places_len i)) ∙ get_behind (places_of h) rest 0

-- the report's header isn't there
pub refused_at_report : Splits → (workers : ℕ) (script : Plain) (run before after places rest : List (List ℕ)) (told h : List (ℕ × RecordEntry)) (left left' : ℕ → List RecordEntry) (taken0 taken taken' taken'' taken3 line : ℕ) → IsScript workers script → run ≡ run_header ∷ replies_header ∷ before → HasRead script.names (asked_in_turn workers script.lines) told before after → ((p : ℕ) → own_entries p told ≡ left p) → after ≡ history_header ∷ places → HasReplayed (length script.names) workers h left places left' rest → length h ≡ length script.lines → taken ≡ taken0 + 2 → taken' ≡ taken + length told → taken'' ≡ taken' + 1 → taken3 ≡ taken'' + length script.lines → line ≡ taken3 + 1 → slice_get rest 0 ≢ Some report_header → IsFirstRefused workers script run taken0 line
refused_at_report splits workers script run before after places rest told h left left' taken0 taken taken' taken'' taken3 line is run_is read fresh after_is r size counted counted' counted'' counted3 at none =
    let n = length script.lines in
    let len = told_len workers script told before after is read in
    let stand = up_to_places splits workers script run before after places rest told h left left' (record { is = is; run_is = run_is; read = read }) fresh after_is r (omega (arith, size)) in (
      3 + n + n,
      omega (arith, len),
      omega arith,
      subst (λ k. StandUpTo workers script run (3 + n + k)) size stand,
      λ m. none (sym (behind_history script.names run before after places rest (asked_in_turn workers script.lines) told h n run_is read len after_is r.lines size) ∙ m.report refl),
    )

-- all lines stand
pub all_stand : Splits → (workers : ℕ) (script : Plain) (run before after places rest behind : List (List ℕ)) (told h : List (ℕ × RecordEntry)) (left left' : ℕ → List RecordEntry) → IsScript workers script → run ≡ run_header ∷ replies_header ∷ before → HasRead script.names (asked_in_turn workers script.lines) told before after → ((p : ℕ) → own_entries p told ≡ left p) → after ≡ history_header ∷ places → HasReplayed (length script.names) workers h left places left' rest → length h ≡ length script.lines → rest ≡ report_header ∷ behind → StandUpTo workers script run (4 + length script.lines + length script.lines)
all_stand splits workers script run before after places rest behind told h left left' is run_is read fresh after_is r size rest_is =
    let n = length script.lines in
    let len = told_len workers script told before after is read in
    let stand = up_to_places splits workers script run before after places rest told h left left' (record { is = is; run_is = run_is; read = read }) fresh after_is r (omega (arith, size)) in
    stand_more (MayStand workers script run n) (3 + n + n) (4 + n + n) (omega arith) (subst (λ k. StandUpTo workers script run (3 + n + k)) size stand)
    (stand_report workers script run n (3 + n + n) refl (behind_history script.names run before after places rest (asked_in_turn workers script.lines) told h n run_is read len after_is r.lines size ∙ ap (λ xs. slice_get xs 0) rest_is))
