-- Histories that several passes share.
use Rattle.std.specs.Prelude.{ℕ, ◌==◌, List, [], ◌∷◌, ◌++◌, map, filter, Option, Some, None}
use mathlib.Core.List.{IsPrefix}

module _ {E : Type 0} where
  -- a front of a history, which is a list of (pass number, entry): a beginning of it
  abbrev pub IsFront : List (ℕ × E) → List (ℕ × E) → Type 0
  IsFront seen history = IsPrefix seen history

  -- the entries that carry a pass's number, in order
  abbrev pub entries_of : ℕ → List (ℕ × E) → List E
  entries_of number history = map (λ x. x.1) (filter (λ x. x.0 == number) history)

  -- an entry that was made, or none, as a list
  abbrev pub listed : Option E → List E
  listed None = []
  listed (Some x) = x ∷ []

  -- the history with the entry that a pass made at its end, or the same history where it made none
  abbrev pub told : List (ℕ × E) → ℕ → Option E → List (ℕ × E)
  told history number None = history
  told history number (Some x) = history ++ (number, x) ∷ []
