-- Totals over lists that are read by `get_elem?`, and how often a number stands in a run of numbers.
use Rattle.std.proofs.Common.{◌≡◌, ◌≢◌, ◌==◌, ℕ, zero, suc, ◌+◌, ◌-◌, ◌<◌, ◌≤◌, List, [], ◌∷◌, length, set, cond, refl, sym, ap, ◌∙◌, arith, eq-eqb, ne_eqb}
use Rattle.std.proofs.lemmas.List.Sums.{sum_by-cons}
use Rattle.std.specs.List.{sum_by, range_with_len}
use mathlib.Core.Logic.{dite}
use mathlib.Core.Option.{some, some-injective, some-ne-none}
use native.Mathlib.Decide.{ℕ_discrete}
use lib.ListN.{get_elem?}

module _ {X : Type 0} where
  pub total_set : (f : X → ℕ) (xs : List X) (i : ℕ) (v w : X) → get_elem? xs i ≡ some v → sum_by f (set xs i w) + f v ≡ sum_by f xs + f w
  total_set f [] i v w e = absurd (some-ne-none v (sym e))
  total_set f (x ∷ xs) zero v w e = omega (arith, sum_by-cons f w xs, sum_by-cons f x xs, ap f (some-injective x v e))
  total_set f (x ∷ xs) (suc i) v w e = omega (arith, sum_by-cons f x (set xs i w), sum_by-cons f x xs, total_set f xs i v w e)

  pub total_at : (f : X → ℕ) (xs : List X) (i : ℕ) (v : X) → get_elem? xs i ≡ some v → f v ≤ sum_by f xs
  total_at f [] i v e = absurd (some-ne-none v (sym e))
  total_at f (x ∷ xs) zero v e = omega (arith, sum_by-cons f x xs, ap f (some-injective x v e))
  total_at f (x ∷ xs) (suc i) v e = omega (arith, sum_by-cons f x xs, total_at f xs i v e)

  pub total_two : (f : X → ℕ) (xs : List X) (i j : ℕ) (v w : X) → i ≢ j → get_elem? xs i ≡ some v → get_elem? xs j ≡ some w → f v + f w ≤ sum_by f xs
  total_two f [] i j v w ne a b = absurd (some-ne-none v (sym a))
  total_two f (x ∷ xs) zero zero v w ne a b = absurd (ne refl)
  total_two f (x ∷ xs) zero (suc j) v w ne a b = omega (arith, sum_by-cons f x xs, ap f (some-injective x v a), total_at f xs j w b)
  total_two f (x ∷ xs) (suc i) zero v w ne a b = omega (arith, sum_by-cons f x xs, ap f (some-injective x w b), total_at f xs i v a)
  total_two f (x ∷ xs) (suc i) (suc j) v w ne a b = omega (arith, sum_by-cons f x xs, total_two f xs i j v w (λ e. ne (ap suc e)) a b)

  -- where each f is at most its g, so is the total
  pub total_le : (f g : X → ℕ) (xs : List X) → ((i : ℕ) (v : X) → get_elem? xs i ≡ some v → f v ≤ g v) → sum_by f xs ≤ sum_by g xs
  total_le f g [] le = omega arith
  total_le f g (x ∷ xs) le = omega (arith, sum_by-cons f x xs, sum_by-cons g x xs, le 0 x refl, total_le f g xs (λ i v e. le (suc i) v e))

  pub total_none : (f g : X → ℕ) (xs : List X) → sum_by f xs ≡ 0 → ((v : X) → f v ≡ 0 → g v ≡ 0) → sum_by g xs ≡ 0
  total_none f g [] z only = refl
  total_none f g (x ∷ xs) z only = let a : f x ≡ 0 = omega (arith, sum_by-cons f x xs) in let b : sum_by f xs ≡ 0 = omega (arith, sum_by-cons f x xs) in
      omega (arith, sum_by-cons g x xs, only x a, total_none f g xs b only)

  -- where the whole total of f is one element's, and g is 0 wherever f is, so is the whole total of g
  pub total_only : (f g : X → ℕ) (xs : List X) (i : ℕ) (v : X) → get_elem? xs i ≡ some v → sum_by f xs ≤ f v → ((u : X) → f u ≡ 0 → g u ≡ 0) → sum_by g xs ≡ g v
  total_only f g [] i v e le only = absurd (some-ne-none v (sym e))
  total_only f g (x ∷ xs) zero v e le only = let b : sum_by f xs ≡ 0 = omega (arith, sum_by-cons f x xs, ap f (some-injective x v e)) in
      omega (arith, sum_by-cons g x xs, ap g (some-injective x v e), total_none f g xs b only)
  total_only f g (x ∷ xs) (suc i) v e le only =
      let a : f x ≡ 0 = omega (arith, sum_by-cons f x xs, total_at f xs i v e) in
      let b : sum_by f xs ≤ f v = omega (arith, sum_by-cons f x xs) in
      omega (arith, sum_by-cons g x xs, only x a, total_only f g xs i v e b only)

-- 1 at this number, and 0 at the others
abbrev pub mark : ℕ → ℕ → ℕ
mark n x = cond (x == n) 1 0

pub mark-same : (n : ℕ) → mark n n ≡ 1
mark-same n = ap (λ b. cond b 1 0) (eq-eqb n n refl)

pub mark-alone : (n : ℕ) → sum_by (mark n) (n ∷ []) ≡ 1
mark-alone n = omega (arith, mark-same n)

pub mark-other : (n x : ℕ) → x ≢ n → mark n x ≡ 0
mark-other n x ne = ap (λ b. cond b 1 0) (ne_eqb x n ne)

abbrev pub one : ℕ → ℕ
one x = 1

pub total-one : (xs : List ℕ) → sum_by one xs ≡ length xs
total-one [] = refl
total-one (x ∷ xs) = omega (arith, sum_by-cons one x xs, total-one xs)

pub run_one : (a n : ℕ) → sum_by one (range_with_len a n) ≡ n
run_one a zero = refl
run_one a (suc n) = omega (arith, sum_by-cons one a (range_with_len (a + 1) n), run_one (a + 1) n)

pub run_last : (f : ℕ → ℕ) (a n : ℕ) → sum_by f (range_with_len a (n + 1)) ≡ sum_by f (range_with_len a n) + f (a + n)
run_last f a zero = let e : a ≡ a + 0 = omega arith in omega (arith, sum_by-cons f a [], ap f e)
run_last f a (suc n) = let e : a + 1 + n ≡ a + suc n = omega arith in
    let longer : suc n + 1 ≡ suc (n + 1) = omega arith in
    let first : sum_by f (range_with_len a (suc n + 1)) ≡ f a + sum_by f (range_with_len (a + 1) (n + 1)) = ap (λ k. sum_by f (range_with_len a k)) longer ∙ sum_by-cons f a (range_with_len (a + 1) (n + 1)) in
    omega (arith, sum_by-cons f a (range_with_len (a + 1) n), run_last f (a + 1) n, ap f e)

pub run_first : (f : ℕ → ℕ) (a n : ℕ) → 0 < n → sum_by f (range_with_len a n) ≡ f a + sum_by f (range_with_len (a + 1) (n - 1))
run_first f a zero some_there = absurd (omega arith)
run_first f a (suc n) some_there = let less : suc n - 1 ≡ n = omega arith in sum_by-cons f a (range_with_len (a + 1) n) ∙ ap (λ k. f a + sum_by f (range_with_len (a + 1) k)) (sym less)

run_below : (m a n : ℕ) → m < a → sum_by (mark m) (range_with_len a n) ≡ 0
run_below m a zero lt = refl
run_below m a (suc n) lt = omega (arith, sum_by-cons (mark m) a (range_with_len (a + 1) n), mark-other m a (λ e. omega arith), run_below m (a + 1) n (omega arith))

-- a number stands in the run at most once
pub run_once : (m a n : ℕ) → sum_by (mark m) (range_with_len a n) ≤ 1
run_once m a zero = omega arith
run_once m a (suc n) = dite (ℕ_discrete a m)
    (λ e. omega (arith, sum_by-cons (mark m) a (range_with_len (a + 1) n), ap (mark m) e, mark-same m, run_below m (a + 1) n (omega arith)))
    (λ ne. omega (arith, sum_by-cons (mark m) a (range_with_len (a + 1) n), mark-other m a ne, run_once m (a + 1) n))

-- and only where it is in its bounds
pub run_in : (m a n : ℕ) → 0 < sum_by (mark m) (range_with_len a n) → (a ≤ m) × (m < a + n)
run_in m a zero some_there = absurd (omega arith)
run_in m a (suc n) some_there = dite (ℕ_discrete a m)
    (λ e. (omega arith, omega arith))
    (λ ne. let t = run_in m (a + 1) n (omega (arith, sum_by-cons (mark m) a (range_with_len (a + 1) n), mark-other m a ne)) in (omega arith, omega arith))

-- and wherever it is in its bounds
pub run_has : (m a n : ℕ) → a ≤ m → m < a + n → 0 < sum_by (mark m) (range_with_len a n)
run_has m a zero low high = absurd (omega arith)
run_has m a (suc n) low high = dite (ℕ_discrete a m)
    (λ e. omega (arith, sum_by-cons (mark m) a (range_with_len (a + 1) n), ap (mark m) e, mark-same m))
    (λ ne. omega (arith, sum_by-cons (mark m) a (range_with_len (a + 1) n), run_has m (a + 1) n (omega arith) (omega arith)))
