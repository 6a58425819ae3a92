-- Lists that were taken apart, the last element first.
use Rattle.std.proofs.Common.{◌≡◌, ℕ, List, [], ◌∷◌, map, reverse, All, sym, ap, ◌∙◌}
use Rattle.std.specs.List.{sum_by}
use Rattle.std.proofs.lemmas.List.Elements.{All-nil, All-cons, All-head, All-tail, All-same, All-map}
use Rattle.kmem_cache.proofs.Partings.{all_reverse, all_back, all_unmap, sum-reverse, sum-map}

pub all_both : {A : Type 0} (P Q : A → Type 0) (xs : List A) → All P xs → All Q xs → All (λ x. P x × Q x) xs
all_both P Q [] p q = All-nil (λ x. P x × Q x)
all_both P Q (x ∷ xs) p q =
    All-cons (λ y. P y × Q y) x xs (All-head P x xs p, All-head Q x xs q) (all_both P Q xs (All-tail P x xs p) (All-tail Q x xs q))

module _ {A B : Type 0} (f : A → B) (xs : List A) (ys : List B) (is : ys ≡ map f (reverse xs)) where
  pub of_parts : (P : B → Type 0) → All P ys → All (λ x. P (f x)) xs
  of_parts P all = all_back (λ x. P (f x)) xs (all_unmap P f (reverse xs) (All-same P (map f (reverse xs)) ys (sym is) all))

  pub to_parts : (P : B → Type 0) → All (λ x. P (f x)) xs → All P ys
  to_parts P all = All-same P ys (map f (reverse xs)) is (All-map P f (reverse xs) (all_reverse (λ x. P (f x)) xs all))

  pub sum_parts : (weight : B → ℕ) → sum_by weight ys ≡ sum_by (λ x. weight (f x)) xs
  sum_parts weight = ap (sum_by weight) is ∙ (sum-map weight f (reverse xs) ∙ sum-reverse (λ x. weight (f x)) xs)
