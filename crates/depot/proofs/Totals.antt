-- Lists that are read by `get_elem?`, totals over them, and what stands at a depot's places.
use Rattle.std.proofs.Common.{◌≡◌, ℕ, zero, suc, ◌+◌, ◌<◌, ◌≤◌, List, [], ◌∷◌, ◌++◌, map, length, set, take, get_or, refl, sym, ap, ◌∙◌, arith}
use Rattle.std.proofs.lemmas.List.Sums.{sum_by-cons, sum_by-append}
use Rattle.std.specs.List.{sum_by}
use mathlib.Core.Option.{some, some-injective, some-ne-none}
use lib.ListN.{get_elem?}
use Rattle.table_sums.proofs.Totals.{total_at}
use Rattle.depot.specs.Depot.{full_at, full_from}

module _ {X : Type 0} where
  total_none : (f g : X → ℕ) (xs : List X) → sum_by f xs ≡ 0 → ((i : ℕ) (u : X) → get_elem? xs i ≡ some u → f u ≡ 0 → g u ≡ 0) → sum_by g xs ≡ 0
  total_none f g [] z only = refl
  total_none f g (x ∷ xs) z only = let a : f x ≡ 0 = omega (arith, sum_by-cons f x xs) in let b : sum_by f xs ≡ 0 = omega (arith, sum_by-cons f x xs) in
      omega (arith, sum_by-cons g x xs, only 0 x refl a, total_none f g xs b (λ i u e. only (suc i) u e))

  -- where the whole total of f is one element's, and g is 0 wherever f is, so is the whole total of g
  pub total_only : (f g : X → ℕ) (xs : List X) (i : ℕ) (v : X) → get_elem? xs i ≡ some v → sum_by f xs ≤ f v → ((j : ℕ) (u : X) → get_elem? xs j ≡ some u → f u ≡ 0 → g u ≡ 0) → sum_by g xs ≡ g v
  total_only f g [] i v e le only = absurd (some-ne-none v (sym e))
  total_only f g (x ∷ xs) zero v e le only = let b : sum_by f xs ≡ 0 = omega (arith, sum_by-cons f x xs, ap f (some-injective x v e)) in
      omega (arith, sum_by-cons g x xs, ap g (some-injective x v e), total_none f g xs b (λ j u e'. only (suc j) u e'))
  total_only f g (x ∷ xs) (suc i) v e le only =
      let a : f x ≡ 0 = omega (arith, sum_by-cons f x xs, total_at f xs i v e) in
      let b : sum_by f xs ≤ f v = omega (arith, sum_by-cons f x xs) in
      omega (arith, sum_by-cons g x xs, only 0 x refl a, total_only f g xs i v e b (λ j u e'. only (suc j) u e'))

  -- and f is 0 of each other element
  pub total_rest : (f : X → ℕ) (xs : List X) (i j : ℕ) (v u : X) → get_elem? xs i ≡ some v → get_elem? xs j ≡ some u → sum_by f xs ≤ f v → ¬ (j ≡ i) → f u ≡ 0
  total_rest f [] i j v u e k le ne = absurd (some-ne-none v (sym e))
  total_rest f (x ∷ xs) zero zero v u e k le ne = absurd (ne refl)
  total_rest f (x ∷ xs) zero (suc j) v u e k le ne = omega (arith, sum_by-cons f x xs, ap f (some-injective x v e), total_at f xs j u k)
  total_rest f (x ∷ xs) (suc i) zero v u e k le ne = omega (arith, sum_by-cons f x xs, ap f (some-injective x u k), total_at f xs i v e)
  total_rest f (x ∷ xs) (suc i) (suc j) v u e k le ne = total_rest f xs i j v u e k (omega (arith, sum_by-cons f x xs)) (λ same. ne (ap suc same))

  pub element : (xs : List X) (i : ℕ) → i < length xs → (v : X) × (get_elem? xs i ≡ some v)
  element [] i lt = absurd (omega arith)
  element (x ∷ xs) zero lt = (x, refl)
  element (x ∷ xs) (suc i) lt = element xs i (omega arith)

  pub read_at : (xs : List X) (i : ℕ) (v d : X) → get_elem? xs i ≡ some v → get_or xs i d ≡ v
  read_at [] i v d e = absurd (some-ne-none v (sym e))
  read_at (x ∷ xs) zero v d e = some-injective x v e
  read_at (x ∷ xs) (suc i) v d e = read_at xs i v d e

  pub take_one_more : (xs : List X) (i : ℕ) (x : X) → get_elem? xs i ≡ some x → take (i + 1) xs ≡ take i xs ++ x ∷ []
  take_one_more [] i x e = absurd (some-ne-none x (sym e))
  take_one_more (y ∷ ys) zero x e = ap (λ z. z ∷ []) (some-injective y x e)
  take_one_more (y ∷ ys) (suc i) x e = let next : suc i + 1 ≡ suc (i + 1) = omega arith in ap (λ n. take n (y ∷ ys)) next ∙ ap (λ l. y ∷ l) (take_one_more ys i x e)

  -- a list that another is made of, element by element
  pub map_of : {Y : Type 0} (f : X → Y) (xs : List X) (ys : List Y) → length xs ≡ length ys → ((k : ℕ) (y : Y) → get_elem? ys k ≡ some y → (x : X) × (get_elem? xs k ≡ some x) × (f x ≡ y)) → map f xs ≡ ys
  map_of f [] [] same each = refl
  map_of f [] (y ∷ ys) same each = absurd (omega arith)
  map_of f (x ∷ xs) [] same each = absurd (omega arith)
  map_of f (x ∷ xs) (y ∷ ys) same each =
      let first = each 0 y refl in
      let head : f x ≡ y = ap f (some-injective x first.0 first.1) ∙ first.2 in
      let tail = map_of f xs ys (omega arith) (λ k z e. each (suc k) z e) in λ i. head i ∷ tail i

  pub total-each : (xs : List X) → sum_by (λ _. 1) xs ≡ length xs
  total-each [] = refl
  total-each (x ∷ xs) = omega (arith, sum_by-cons (λ _. 1) x xs, total-each xs)

-- one magazine is exchanged for another
pub full_set : (weight : ℕ × List ℕ → ℕ) (k : ℕ) (standing : List (List ℕ)) (i place : ℕ) (was now : List ℕ) → k + i ≡ place → get_elem? standing i ≡ some was
    → sum_by weight (full_from k (set standing i now)) + sum_by weight (full_at place was) ≡ sum_by weight (full_from k standing) + sum_by weight (full_at place now)
full_set weight k [] i place was now at e = absurd (some-ne-none was (sym e))
full_set weight k (x ∷ xs) zero place was now at e =
    let same : k ≡ place = omega arith in
    omega (
      arith,
      sum_by-append weight (full_at k now) (full_from (k + 1) xs),
      sum_by-append weight (full_at k x) (full_from (k + 1) xs),
      ap (λ p. sum_by weight (full_at p now)) same,
      ap (λ p. sum_by weight (full_at p x)) same,
      ap (λ l. sum_by weight (full_at place l)) (some-injective x was e),
    )
full_set weight k (x ∷ xs) (suc i) place was now at e =
    omega (arith, sum_by-append weight (full_at k x) (full_from (k + 1) (set xs i now)), sum_by-append weight (full_at k x) (full_from (k + 1) xs), full_set weight (k + 1) xs i place was now (omega arith) e)
