-- A shared history has as many entries as its script has lines.
use Rattle.std.proofs.Common.{◌≡◌, ◌≢◌, ◌==◌, ℕ, ◌+◌, ◌<◌, ◌≤◌, zero, suc, Bool, true, false, cond, List, [], ◌∷◌, filter, length, refl, sym, ap, ◌∙◌, arith}
use Rattle.std.specs.Prelude.{All, count_by}
use Rattle.std.proofs.lemmas.Bool.{eqb-true, true≢false}
use Rattle.std.proofs.lemmas.Bool.Decides.{nat_tests}
use Rattle.std.proofs.lemmas.List.{length-map}
use Rattle.std.proofs.lemmas.List.Sums.{sum_by-cons, length-filter}
use Rattle.std.proofs.lemmas.List.Elements.{All-head, All-tail}
use Rattle.kmem_text.specs.declared.command.Command.{Command}
use Rattle.kmem_text.specs.declared.command.Line.{Line}
use Rattle.kmem_text.specs.Scripts.{IsWorker}
use Rattle.kmem_model.specs.declared.record_entry.RecordEntry.{RecordEntry}
use Rattle.kmem_model.specs.History.{worker_of, commands_of, numbered, IsShared}

-- the sum of f over so many numbers
total : ℕ → (ℕ → ℕ) → ℕ
total zero f = 0
total (suc n) f = total n f + f n

total_same : (n : ℕ) (f g : ℕ → ℕ) → ((p : ℕ) → f p ≡ g p) → total n f ≡ total n g
total_same n f g same = λ i. total n (λ p. same p i)

total_add : (n : ℕ) (f g : ℕ → ℕ) → total n (λ p. f p + g p) ≡ total n f + total n g
unfolding total
total_add zero f g = refl
total_add (suc n) f g = omega (arith, total_add n f g)

total_zero : (n : ℕ) → total n (λ p. 0) ≡ 0
unfolding total
total_zero zero = refl
total_zero (suc n) = omega (arith, total_zero n)

abbrev one_if : Bool → ℕ
one_if b = cond b 1 0

itself : (n : ℕ) → (n == n) ≡ true
itself n = grind (arith, nat_tests)

not_itself : (k n : ℕ) → k ≢ n → (k == n) ≡ false
not_itself k n differs = by (k == n) refl
  where
    by : (b : Bool) → (k == n) ≡ b → (k == n) ≡ false
    by true is = absurd (differs (eqb-true k n is))
    by false is = is

-- a number is one of those from a on, or it lies behind them

total_none : (a n k : ℕ) → n + a ≤ k → total n (λ p. one_if (k == p + a)) ≡ 0
unfolding total
total_none a zero k small = refl
total_none a (suc n) k small = omega (arith, ap one_if (not_itself k (n + a) (λ e. omega arith)), total_none a n k (omega arith))

total_one : (a n k : ℕ) → a ≤ k → k < n + a → total n (λ p. one_if (k == p + a)) ≡ 1
unfolding total
total_one a zero k low high = absurd (omega arith)
total_one a (suc n) k low high = by (k == n + a) refl (total_one a n k low)
  where
    by : (b : Bool) → (k == n + a) ≡ b → (k < n + a → total n (λ p. one_if (k == p + a)) ≡ 1) → total (suc n) (λ p. one_if (k == p + a)) ≡ 1
    by true is before = let same = eqb-true k (n + a) is in omega (arith, ap one_if is, total_none a n k (omega (arith, same)))
    by false is before =
        let differs : k ≢ n + a = λ e. true≢false (sym (ap (λ m. k == m) (sym e) ∙ itself k) ∙ is) in
        omega (arith, ap one_if is, before (omega (arith, differs)))

-- each element counts at its key, which is one of n numbers from a on
module _ {X : Type 0} (key : X → ℕ) (a n : ℕ) where
  abbrev Keyed : X → Type 0
  Keyed x = (a ≤ key x) × (key x < n + a)

  all_keyed : (xs : List X) → All Keyed xs → total n (λ p. count_by (λ x. key x == p + a) xs) ≡ length xs
  all_keyed [] all = total_zero n
  all_keyed (x ∷ xs) all =
      let here = All-head Keyed x xs all in
      total_same n (λ p. count_by (λ y. key y == p + a) (x ∷ xs)) (λ p. one_if (key x == p + a) + count_by (λ y. key y == p + a) xs) (λ p. sum_by-cons (λ y. cond (key y == p + a) 1 0) x xs)
      ∙ (total_add n (λ p. one_if (key x == p + a)) (λ p. count_by (λ y. key y == p + a) xs)
      ∙ omega (arith, total_one a n (key x) here.0 here.1, all_keyed xs (All-tail Keyed x xs all)))

length-numbered : (number : ℕ) (commands : List Command) → length (numbered number commands) ≡ length commands
length-numbered number [] = refl
length-numbered number (command ∷ commands) = ap suc (length-numbered (number + 1) commands)

-- a worker has as many entries as lines
same_share : (h : List (ℕ × RecordEntry)) (lines : List Line) → IsShared h lines → (p : ℕ) → count_by (λ e. e.0 == p + 0) h ≡ count_by (λ l. l.worker == p + 1) lines
same_share h lines shared p =
    ap (λ k. count_by (λ (e : ℕ × RecordEntry). e.0 == k) h) (omega arith)
    ∙ (sym (length-filter (λ (e : ℕ × RecordEntry). e.0 == p) h)
    ∙ (sym (length-map (filter (λ (e : ℕ × RecordEntry). e.0 == p) h) (λ (e : ℕ × RecordEntry). (e.1.number, e.1.command)))
    ∙ (ap length (shared p)
    ∙ (length-numbered 1 (commands_of (worker_of p) lines)
    ∙ (length-map (filter (λ (l : Line). l.worker == p + 1) lines) (λ (l : Line). l.command)
    ∙ length-filter (λ (l : Line). l.worker == p + 1) lines)))))

pub as_many : (workers : ℕ) (h : List (ℕ × RecordEntry)) (lines : List Line) → All (λ e. e.0 < workers) h → All (λ l. IsWorker workers l.worker) lines → IsShared h lines → length h ≡ length lines
as_many workers h lines passes of shared =
    sym (all_keyed (λ (e : ℕ × RecordEntry). e.0) 0 workers h (λ k d small. (omega arith, omega (arith, passes k d small))))
    ∙ (total_same workers (λ p. count_by (λ e. e.0 == p + 0) h) (λ p. count_by (λ l. l.worker == p + 1) lines) (same_share h lines shared)
    ∙ all_keyed (λ (l : Line). l.worker) 1 workers lines (λ k d small. (omega (arith, (of k d small).0), omega (arith, (of k d small).1))))
