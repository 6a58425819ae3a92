-- Numbers as places of words with 64 places each, and searches among the numbers that pass a test (this project's own).
use Rattle.std.specs.Prelude.{ℕ, ◌≡◌, ◌<◌, ◌≤◌, ◌*◌, ◌/◌, ◌%◌, Bool, true, false, ◌==◌, List, Option, Some, None, length, map, slice_index}
use Rattle.std.specs.Int.{bit_at}
use Rattle.std.specs.List.{range_with_len}

-- whether a word has a 1 at this place
abbrev pub has_place : ℕ → ℕ → Bool
has_place word i = bit_at word i == 1

-- whether a number is among the places of these words
abbrev pub is_marked : List ℕ → ℕ → Bool
is_marked words n = has_place (slice_index words (n / 64)) (n % 64)

-- the same for all numbers that have a place
abbrev pub flags_of : List ℕ → List Bool
flags_of words = map (is_marked words) (range_with_len 0 (length words * 64))

-- the least number from `from` on that passes, or none does
abbrev pub IsLeastFrom : (ℕ → Bool) → ℕ → Option ℕ → Type 0
IsLeastFrom test from None = (k : ℕ) → from ≤ k → test k ≡ false
IsLeastFrom test from (Some n) = (from ≤ n) × (test n ≡ true) × ((k : ℕ) → from ≤ k → k < n → test k ≡ false)

-- the greatest number below `to` that passes, or none does
abbrev pub IsLastBelow : (ℕ → Bool) → ℕ → Option ℕ → Type 0
IsLastBelow test to None = (k : ℕ) → k < to → test k ≡ false
IsLastBelow test to (Some n) = (n < to) × (test n ≡ true) × ((k : ℕ) → n < k → k < to → test k ≡ false)
