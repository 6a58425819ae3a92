-- Numbers that are spread over views: a change of one view keeps what holds of the others.
use Rattle.std.proofs.Common.{◌≡◌, ◌≢◌, ℕ, zero, suc, ◌<◌, List, [], ◌∷◌, length, set, sym, ap, subst, ⊎_elim, arith, All, Contains}
use Rattle.std.proofs.lemmas.List.Sums.{sum_by-cons}
use Rattle.std.proofs.lemmas.List.Elements.{All-nil, All-cons}
use Rattle.std.specs.List.{sum_by, range_with_len}
use mathlib.Core.Logic.{dite}
use mathlib.Core.Option.{some, some-ne-none}
use native.Mathlib.Decide.{ℕ_discrete}
use lib.ListN.{get_elem?}
use Rattle.atomic_table.proofs.Lists.{at_set}
use Rattle.table_sums.specs.Spread.{IsSpread, IsNumbering}
use Rattle.table_sums.proofs.Totals.{total_set, mark, mark-same, mark-other, run_once, run_in, run_has}

module _ {V : Type 0} where
  -- one view changes, to one with what holds of it, and what held of the others still does
  pub seats_set : (P Q : ℕ → V → Type 0) (views : List V) (me : ℕ) (w : V) → Q me w
      → ((j : ℕ) (u : V) → j ≢ me → get_elem? views j ≡ some u → P j u → Q j u)
      → ((j : ℕ) (u : V) → get_elem? views j ≡ some u → P j u)
      → (j : ℕ) (u : V) → get_elem? (set views me w) j ≡ some u → Q j u
  seats_set P Q views me w mine others all j u e = ⊎_elim
      (λ (t : (j ≡ me) × (w ≡ u)). subst (λ (x : ℕ × V). Q x.0 x.1) (λ i. (sym t.0 i, t.1 i)) mine)
      (λ (t : (j ≢ me) × (get_elem? views j ≡ some u)). others j u t.0 t.1 (all j u t.1))
      (at_set views me j w u e)

  -- one view changes, and has the numbers that it had
  pub spread_kept : (f : V → List ℕ) (views : List V) (numbers : List ℕ) (me : ℕ) (v w : V) → get_elem? views me ≡ some v
      → f w ≡ f v → IsSpread f views numbers → IsSpread f (set views me w) numbers
  spread_kept f views numbers me v w at same spread weight =
      omega (arith, total_set (λ u. sum_by weight (f u)) views me v w at, ap (sum_by weight) same, spread weight)

  -- where there is a view, its place is within the list
  pub inside : (views : List V) (me : ℕ) (v : V) → get_elem? views me ≡ some v → me < length views
  inside [] me v e = absurd (some-ne-none v (sym e))
  inside (x ∷ xs) zero v e = omega arith
  inside (x ∷ xs) (suc me) v e = let h = inside xs me v e in omega arith

-- a number that stands in a list at all is one of its elements
pub contains_marked : (n : ℕ) (xs : List ℕ) → 0 < sum_by (mark n) xs → Contains xs n
contains_marked n [] some_there = absurd (omega arith)
contains_marked n (x ∷ xs) some_there = dite (ℕ_discrete x n)
    (λ e. (0, omega arith, e))
    (λ ne. let c = contains_marked n xs (omega (arith, sum_by-cons (mark n) x xs, mark-other n x ne)) in (suc c.0, omega arith, c.2))

-- what holds of each number that stands in a list at all holds of all
all_marked : (P : ℕ → Type 0) (xs : List ℕ) → ((n : ℕ) → 0 < sum_by (mark n) xs → P n) → All P xs
all_marked P [] each = All-nil P
all_marked P (x ∷ xs) each =
    All-cons P x xs
    (each x (omega (arith, sum_by-cons (mark x) x xs, mark-same x)))
    (all_marked P xs (λ n more. each n (omega (arith, sum_by-cons (mark n) x xs))))

-- numbers that weigh as a run from 0 does are its numbers, each once
pub numbering : (numbers : List ℕ) (count : ℕ) → ((weight : ℕ → ℕ) → sum_by weight numbers ≡ sum_by weight (range_with_len 0 count)) → IsNumbering numbers count
numbering numbers count same = record {
  each = λ n low. omega (arith, same (mark n), run_once n 0 count, run_has n 0 count (omega arith) (omega arith));
  within = all_marked (λ n. n < count) numbers (λ n more. let within = run_in n 0 count (omega (arith, same (mark n))) in omega arith);
}
