-- Sums over passes: how many commands there are, and how many entries are left.
use Rattle.std.proofs.Common.{◌≡◌, ◌≢◌, ◌==◌, ◌⊎◌, ℕ, ◌+◌, ◌<◌, ◌≤◌, zero, suc, Bool, true, false, cond, List, [], ◌∷◌, ◌++◌, map, filter, length, drop, refl, sym, ap, ◌∙◌, subst, arith, inl, inr, length-append}
use Rattle.std.specs.Prelude.{All}
use Rattle.std.proofs.lemmas.List.{length-map}
use Rattle.kmem_text.specs.declared.command.Line.{Line}
use Rattle.kmem_text.specs.Scripts.{IsWorker}
use Rattle.kmem_model.specs.declared.record_entry.RecordEntry.{RecordEntry}
use Rattle.kmem_model.specs.History.{worker_of, commands_of, numbered, own_entries}
use Rattle.kmem_model.specs.Checked.{Asked, asked_in_turn, asked_of_pass}
use Rattle.run_check.proofs.KeptMaps.{same_or_not, itself}
use Rattle.run_check.proofs.Replaying.{not_itself}
use Rattle.run_check.proofs.Asked.{length-asked}
use Rattle.run_check.proofs.ShareLists.{turn_suc}
use Rattle.run_check.proofs.Unique.{after_turn, turn_first, turn_rest}

-- the sum of f over so many passes
abbrev pub total : ℕ → (ℕ → ℕ) → ℕ
total zero f = 0
total (suc n) f = f 0 + total n (λ p. f (suc p))

pub total_same : (n : ℕ) (f g : ℕ → ℕ) → ((p : ℕ) → f p ≡ g p) → total n f ≡ total n g
total_same zero f g same = refl
total_same (suc n) f g same = omega (arith, same 0, total_same n (λ p. f (suc p)) (λ p. g (suc p)) (λ p. same (suc p)))

total_add : (n : ℕ) (f g : ℕ → ℕ) → total n (λ p. f p + g p) ≡ total n f + total n g
total_add zero f g = refl
total_add (suc n) f g = omega (arith, total_add n (λ p. f (suc p)) (λ p. g (suc p)))

total_zero : (n : ℕ) → total n (λ p. 0) ≡ 0
total_zero zero = refl
total_zero (suc n) = omega (arith, total_zero n)

total_snoc : (n : ℕ) (f : ℕ → ℕ) → total (suc n) f ≡ total n f + f n
total_snoc zero f = omega arith
total_snoc (suc n) f = omega (arith, total_snoc n (λ p. f (suc p)))

pub none_in_total : (n : ℕ) (f : ℕ → ℕ) → total n f ≡ 0 → (p : ℕ) → p < n → f p ≡ 0
none_in_total zero f e p small = absurd (omega arith)
none_in_total (suc n) f e zero small = omega arith
none_in_total (suc n) f e (suc p) small = none_in_total n (λ q. f (suc q)) (omega arith) p (omega arith)

-- One worker's line

abbrev one_if : Bool → ℕ
one_if b = cond b 1 0

total_none : (n a w : ℕ) → w ≤ a → total n (λ p. one_if (w == (a + p) + 1)) ≡ 0
total_none zero a w small = refl
total_none (suc n) a w small =
    let here : one_if (w == (a + 0) + 1) ≡ 0 = ap one_if (not_itself ((a + 0) + 1) w (λ e. omega arith)) in
    let rest = total_same n (λ p. one_if (w == (a + suc p) + 1)) (λ p. one_if (w == ((a + 1) + p) + 1)) (λ p. ap (λ k. one_if (w == k + 1)) (omega arith)) in
    omega (arith, here, rest, total_none n (a + 1) w (omega arith))

total_one : (n a w : ℕ) → a < w → w ≤ a + n → total n (λ p. one_if (w == (a + p) + 1)) ≡ 1
total_one zero a w low high = absurd (omega arith)
total_one (suc n) a w low high =
    let rest = total_same n (λ p. one_if (w == (a + suc p) + 1)) (λ p. one_if (w == ((a + 1) + p) + 1)) (λ p. ap (λ k. one_if (w == k + 1)) (omega arith)) in
    elim (same_or_not w ((a + 0) + 1)) [
      | inl s ↦ omega (arith, ap one_if s.1, rest, total_none n (a + 1) w (omega (arith, s.0)))
      | inr s ↦ let more : a + 1 < w = omega (arith, s.0) in omega (arith, ap one_if s.1, rest, total_one n (a + 1) w more (omega arith))
    ]

one_line : (w : ℕ) (l : Line) (lines : List Line) → length (commands_of w (l ∷ lines)) ≡ one_if (l.worker == w) + length (commands_of w lines)
one_line w l lines = elim (l.worker == w) as (λ b. length (map (λ (x : Line). x.command) (cond b (l ∷ filter (λ x. x.worker == w) lines) (filter (λ x. x.worker == w) lines))) ≡ one_if b + length (commands_of w lines)) [
  | true ↦ omega arith
  | false ↦ omega arith
]

lines_total : (n : ℕ) (lines : List Line) → All (λ (l : Line). IsWorker n l.worker) lines → total n (λ p. length (commands_of (worker_of p) lines)) ≡ length lines
lines_total n [] all = total_zero n
lines_total n (l ∷ lines) all =
    let first = all 0 l (omega arith) in
    total_same n (λ p. length (commands_of (worker_of p) (l ∷ lines))) (λ p. one_if (l.worker == (0 + p) + 1) + length (commands_of (worker_of p) lines)) (λ p. one_line (worker_of p) l lines ∙ ap (λ k. one_if (l.worker == k + 1) + length (commands_of (worker_of p) lines)) (omega arith))
    ∙ total_add n (λ p. one_if (l.worker == (0 + p) + 1)) (λ p. length (commands_of (worker_of p) lines))
    ∙ omega (arith, total_one n 0 l.worker first.0 (omega (arith, first.1)), lines_total n lines (λ k d small. all (suc k) d (omega arith)))

turns_total : (n : ℕ) (lines : List Line) → length (asked_in_turn n lines) ≡ total n (λ p. length (commands_of (worker_of p) lines))
turns_total zero lines = refl
turns_total (suc n) lines =
    ap length (turn_suc n lines) ∙ length-append (asked_in_turn n lines) (asked_of_pass lines n)
    ∙ (λ i. turns_total n lines i + length-asked n (commands_of (worker_of n) lines) i)
    ∙ sym (total_snoc n (λ p. length (commands_of (worker_of p) lines)))

-- as many commands are asked as there are
pub all_asked : (workers : ℕ) (lines : List Line) → All (λ (l : Line). IsWorker workers l.worker) lines → length (asked_in_turn workers lines) ≡ length lines
all_asked workers lines all = turns_total workers lines ∙ lines_total workers lines all

-- What is left

same_after : (T : ℕ → List RecordEntry) (p0 p : ℕ) → length (after_turn T (suc p0) (suc p)) ≡ length (after_turn (λ q. T (suc q)) p0 p)
same_after T p0 p = elim (same_or_not p p0) [
  | inl s ↦ ap (λ b. length (cond b (drop 1 (T (suc p))) (T (suc p)))) (ap (λ n. suc n == suc p0) s.0 ∙ itself (suc p0)) ∙ sym (ap (λ b. length (cond b (drop 1 (T (suc p))) (T (suc p)))) s.1)
  | inr s ↦ ap (λ b. length (cond b (drop 1 (T (suc p))) (T (suc p)))) (not_itself (suc p0) (suc p) (λ q. s.0 (omega arith))) ∙ sym (ap (λ b. length (cond b (drop 1 (T (suc p))) (T (suc p)))) s.1)
]

few_after : (n : ℕ) (T : ℕ → List RecordEntry) (p0 : ℕ) → p0 < n → ((p : ℕ) (e : RecordEntry) (rest : List RecordEntry) → T p ≡ e ∷ rest → p < n) → (p : ℕ) (e : RecordEntry) (rest : List RecordEntry) → after_turn T p0 p ≡ e ∷ rest → p < n
few_after n T p0 small few p e rest is = elim (same_or_not p p0) [
  | inl s ↦ omega arith
  | inr s ↦ few p e rest (sym (ap (λ b. cond b (drop 1 (T p)) (T p)) s.1) ∙ is)
]

total_turn : (n : ℕ) (T : ℕ → List RecordEntry) (p0 : ℕ) (e : RecordEntry) (rest : List RecordEntry) → p0 < n → T p0 ≡ e ∷ rest → total n (λ p. length (T p)) ≡ 1 + total n (λ p. length (after_turn T p0 p))
total_turn zero T p0 e rest small is = absurd (omega arith)
total_turn (suc n) T zero e rest small is =
    let others = total_same n (λ p. length (after_turn T 0 (suc p))) (λ p. length (T (suc p))) (λ p. ap (λ b. length (cond b (drop 1 (T (suc p))) (T (suc p)))) (not_itself 0 (suc p) (λ q. omega arith))) in
    let first : length (after_turn T 0 0) ≡ length rest = ap (λ xs. length (drop 1 xs)) is in
    omega (arith, ap length is, others, first)
total_turn (suc n) T (suc p0) e rest small is =
    let first : length (after_turn T (suc p0) 0) ≡ length (T 0) = ap (λ b. length (cond b (drop 1 (T 0)) (T 0))) (not_itself (suc p0) 0 (λ q. omega arith)) in
    let others = total_same n (λ p. length (after_turn T (suc p0) (suc p))) (λ p. length (after_turn (λ q. T (suc q)) p0 p)) (λ p. same_after T p0 p) in
    omega (arith, first, others, total_turn n (λ q. T (suc q)) p0 e rest (omega arith) is)

-- entries that come off the passes' own leave so many fewer
pub total_left : (n : ℕ) (T r : ℕ → List RecordEntry) (h : List (ℕ × RecordEntry)) → n ≤ 16 → ((p : ℕ) (e : RecordEntry) (rest : List RecordEntry) → T p ≡ e ∷ rest → p < n) → ((p : ℕ) → T p ≡ own_entries p h ++ r p) → total n (λ p. length (T p)) ≡ length h + total n (λ p. length (r p))
total_left n T r [] small few turns = total_same n (λ p. length (T p)) (λ p. length (r p)) (λ p. ap length (turns p)) ∙ omega arith
total_left n T r (e ∷ h) small few turns =
    let first = turn_first T r e h turns in
    let within = few e.0 e.1 _ first in
    omega (arith, total_turn n T e.0 e.1 _ within first, total_left n (after_turn T e.0) r h small (few_after n T e.0 within few) (turn_rest T r e h e.0 refl turns))
