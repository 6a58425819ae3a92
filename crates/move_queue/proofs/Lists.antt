-- Lists of numbered jobs, and totals over views.
use Rattle.std.proofs.Common.{◌≡◌, ℕ, zero, suc, ◌+◌, ◌<◌, ◌≤◌, List, [], ◌∷◌, ◌++◌, length, refl, sym, ap, ◌∙◌, arith}
use Rattle.std.proofs.lemmas.List.{map-append, length-map}
use Rattle.std.proofs.lemmas.List.Sums.{sum_by-cons, sum_by-append, sum_by_push}
use Rattle.std.proofs.lemmas.List.Elements.{All-weaker}
use Rattle.std.specs.List.{sum_by, range_with_len}
use mathlib.Core.Option.{some, some-injective, some-ne-none}
use lib.ListN.{get_elem?}
use Rattle.atomic_table.proofs.Lists.{at_longer}
use Rattle.table_sums.specs.Spread.{IsSpread}
use Rattle.table_sums.proofs.Totals.{total_at, one, total-one, run_one, run_last}
use Rattle.table_sums.proofs.Spreads.{inside}
use Rattle.move_queue.specs.Queue.{numbers_in, AreIn, IsLater}

module _ {V : Type 0} where
  total_none : (f g : V → ℕ) (xs : List V) → sum_by f xs ≡ 0 → ((i : ℕ) (u : V) → get_elem? xs i ≡ some u → f u ≡ 0 → g u ≡ 0) → sum_by g xs ≡ 0
  total_none f g [] z only = refl
  total_none f g (x ∷ xs) z only = let a : f x ≡ 0 = omega (arith, sum_by-cons f x xs) in let b : sum_by f xs ≡ 0 = omega (arith, sum_by-cons f x xs) in
      omega (arith, sum_by-cons g x xs, only 0 x refl a, total_none f g xs b (λ i u e. only (suc i) u e))

  -- where the whole total of f is one element's, and g is 0 wherever f is, so is the whole total of g
  pub total_only : (f g : V → ℕ) (xs : List V) (i : ℕ) (v : V) → get_elem? xs i ≡ some v → sum_by f xs ≤ f v → ((j : ℕ) (u : V) → get_elem? xs j ≡ some u → f u ≡ 0 → g u ≡ 0) → sum_by g xs ≡ g v
  total_only f g [] i v e le only = absurd (some-ne-none v (sym e))
  total_only f g (x ∷ xs) zero v e le only = let b : sum_by f xs ≡ 0 = omega (arith, sum_by-cons f x xs, ap f (some-injective x v e)) in
      omega (arith, sum_by-cons g x xs, ap g (some-injective x v e), total_none f g xs b (λ j u e'. only (suc j) u e'))
  total_only f g (x ∷ xs) (suc i) v e le only =
      let a : f x ≡ 0 = omega (arith, sum_by-cons f x xs, total_at f xs i v e) in
      let b : sum_by f xs ≤ f v = omega (arith, sum_by-cons f x xs) in
      omega (arith, sum_by-cons g x xs, only 0 x refl a, total_only f g xs i v e b (λ j u e'. only (suc j) u e'))

  pub total_sum : (f g : V → ℕ) (xs : List V) → sum_by (λ x. f x + g x) xs ≡ sum_by f xs + sum_by g xs
  total_sum f g [] = refl
  total_sum f g (x ∷ xs) = omega (arith, sum_by-cons f x xs, sum_by-cons g x xs, sum_by-cons (λ x. f x + g x) x xs, total_sum f g xs)

-- a run of numbers from 0 that is longer by one
pub run_push : (weight : ℕ → ℕ) (n m : ℕ) → m ≡ n + 1 → sum_by weight (range_with_len 0 m) ≡ sum_by weight (range_with_len 0 n) + weight n
run_push weight n m e = let from : 0 + n ≡ n = omega arith in ap (λ k. sum_by weight (range_with_len 0 k)) e ∙ (run_last weight 0 n ∙ ap (λ k. sum_by weight (range_with_len 0 n) + weight k) from)

module _ {A : Type 0} where
  -- each number counts once
  pub numbers_many : (xs : List (ℕ × A)) → sum_by one (numbers_in xs) ≡ length xs
  numbers_many xs = total-one (numbers_in xs) ∙ length-map xs (λ e. e.0)

  pub numbers_push : (weight : ℕ → ℕ) (xs : List (ℕ × A)) (n : ℕ) (x : A) → sum_by weight (numbers_in (xs ++ (n, x) ∷ [])) ≡ sum_by weight (numbers_in xs) + weight n
  numbers_push weight xs n x = ap (sum_by weight) (map-append (λ (e : ℕ × A). e.0) xs ((n, x) ∷ [])) ∙ sum_by_push weight (numbers_in xs) n

  pub numbers_append : (weight : ℕ → ℕ) (xs ys : List (ℕ × A)) → sum_by weight (numbers_in (xs ++ ys)) ≡ sum_by weight (numbers_in xs) + sum_by weight (numbers_in ys)
  numbers_append weight xs ys = ap (sum_by weight) (map-append (λ (e : ℕ × A). e.0) xs ys) ∙ sum_by-append weight (numbers_in xs) (numbers_in ys)

  -- numbers that are spread over views are as many as there are
  pub spread_many : {V : Type 0} (f : V → List (ℕ × A)) (views : List V) (n : ℕ) → IsSpread (λ v. numbers_in (f v)) views (range_with_len 0 n) → sum_by (λ v. length (f v)) views ≡ n
  spread_many {V} f views n spread =
      let each : sum_by (λ v. sum_by one (numbers_in (f v))) views ≡ sum_by (λ v. length (f v)) views = ap (λ (g : V → ℕ). sum_by g views) (λ i v. numbers_many (f v) i) in
      omega (arith, each, spread one, run_one 0 n)

  -- jobs that stand in a list stand in a longer one
  pub in_longer : (jobs more : List A) (xs : List (ℕ × A)) → AreIn jobs xs → AreIn (jobs ++ more) xs
  in_longer jobs more xs all = All-weaker (λ (e : ℕ × A). get_elem? jobs e.0 ≡ some e.1) (λ (e : ℕ × A). get_elem? (jobs ++ more) e.0 ≡ some e.1) (λ e here. at_longer jobs more e.0 e.1 here) xs all

  -- their numbers are below its length
  pub in_before : (jobs : List A) (xs : List (ℕ × A)) → AreIn jobs xs → IsLater (length jobs) xs
  in_before jobs xs all = All-weaker (λ (e : ℕ × A). get_elem? jobs e.0 ≡ some e.1) (λ (e : ℕ × A). e.0 < length jobs) (λ e here. inside jobs e.0 e.1 here) xs all
