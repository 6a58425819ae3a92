-- How the views of a table's seats share numbers (this project's own).
use Rattle.std.specs.Prelude.{◌≡◌, ◌==◌, ℕ, ◌<◌, List, All, count_by}
use Rattle.std.specs.List.{sum_by}

-- each of these numbers stands with one view, once, and the views have no others: they weigh the same, however numbers are weighed
abbrev pub IsSpread : {V : Type 0} → (V → List ℕ) → List V → List ℕ → Type 0
IsSpread f views numbers = (weight : ℕ → ℕ) → sum_by (λ v. sum_by weight (f v)) views ≡ sum_by weight numbers

-- the numbers are 0, 1 and so on up to this count, in some order: each of these stands there once, and no other does
pub record IsNumbering (numbers : List ℕ) (count : ℕ) : Type 0 where
  pub each : (n : ℕ) → n < count → count_by (λ m. m == n) numbers ≡ 1
  pub within : All (λ n. n < count) numbers
