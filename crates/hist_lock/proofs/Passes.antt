-- The passes of a lock, one after another.
use Rattle.std.proofs.Common.{◌≡◌, ℕ, suc, ◌+◌, ◌<◌, ◌≤◌, List, [], ◌∷◌, ◌++◌, map, length, get_or, take, All, Some, refl, ap, ◌∙◌, arith}
use Rattle.std.proofs.lemmas.List.{take_more, length-take-le}
use Rattle.std.proofs.lemmas.List.Elements.{All-nil, All-cons, All-head, All-tail, All-pop}
use Rattle.hist_lock.specs.Passes.{Site, fresh, fresh_passes}

module _ {X : Type 0} where
  -- what holds of all holds of those before the last one, and of the last
  pub All-last : (P : X → Type 0) (xs ys : List X) (y : X) → xs ≡ ys ++ y ∷ [] → All P xs → All P ys × P y
  All-last P xs ys y e all = All-pop P xs ys (Some y) e all

  -- what holds of all images holds of what they are the images of
  pub All-of_map : {Y : Type 0} (P : Y → Type 0) (f : X → Y) (xs : List X) → All P (map f xs) → All (λ x. P (f x)) xs
  All-of_map P f [] all = All-nil (λ x. P (f x))
  All-of_map P f (x ∷ xs) all = All-cons (λ y. P (f y)) x xs (All-head P (f x) (map f xs) all) (All-of_map P f xs (All-tail P (f x) (map f xs) all))

  pub map_twice : {Y Z : Type 0} (f : X → Y) (h : Y → Z) (xs : List X) → map h (map f xs) ≡ map (λ x. h (f x)) xs
  map_twice f h [] = refl
  map_twice f h (x ∷ xs) = ap (λ l. h (f x) ∷ l) (map_twice f h xs)

length-fresh_passes : {H : Type 0} (E : Type 0) (site : Site H) (n : ℕ) (quotas : List ℕ) → length (fresh_passes {E = E} site n quotas) ≡ length quotas
length-fresh_passes E site n [] = refl
length-fresh_passes E site n (q ∷ qs) = ap suc (length-fresh_passes E site (n + 1) qs)

pub length-fresh_passes_take : {H : Type 0} (E : Type 0) (site : Site H) (n : ℕ) (quotas : List ℕ) (i : ℕ) → i ≤ length quotas → length (fresh_passes {E = E} site n (take i quotas)) ≡ i
length-fresh_passes_take E site n quotas i le = length-fresh_passes E site n (take i quotas) ∙ length-take-le i quotas le

module _ {E H : Type 0} where
  fresh_passes-push : (site : Site H) (n : ℕ) (quotas : List ℕ) (q : ℕ) → fresh_passes {E = E} site n (quotas ++ q ∷ []) ≡ fresh_passes site n quotas ++ fresh site (n + length quotas) q ∷ []
  fresh_passes-push site n [] q = let e : n ≡ n + 0 = omega arith in ap (λ k. fresh site k q ∷ []) e
  fresh_passes-push site n (x ∷ xs) q =
      let e : n + 1 + length xs ≡ n + suc (length xs) = omega arith in
      ap (λ l. fresh site n x ∷ l) (fresh_passes-push site (n + 1) xs q ∙ ap (λ k. fresh_passes site (n + 1) xs ++ fresh site k q ∷ []) e)

  -- the passes for one quota more
  pub fresh_passes_more : (site : Site H) (quotas : List ℕ) (i : ℕ) → i < length quotas
      → fresh_passes {E = E} site 0 (take (i + 1) quotas) ≡ fresh_passes site 0 (take i quotas) ++ fresh site i (get_or quotas i 0) ∷ []
  fresh_passes_more site quotas i below =
      let e : 0 + length (take i quotas) ≡ i = omega (arith, length-take-le i quotas (omega arith)) in
      ap (fresh_passes site 0) (take_more quotas i 0 below) ∙ (fresh_passes-push site 0 (take i quotas) (get_or quotas i 0)
      ∙ ap (λ k. fresh_passes site 0 (take i quotas) ++ fresh site k (get_or quotas i 0) ∷ []) e)
