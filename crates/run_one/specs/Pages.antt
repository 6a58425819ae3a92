-- A page of text on its way out.
use Rattle.std.specs.Prelude.{◌≡◌, List, ℕ, ◌++◌, Option}
use Rattle.std.specs.Io.KnownBytes.{Appends}

-- a front of what stood in the page was appended, and the rest is kept
abbrev pub MovesOut : Option (List ℕ) → Option (List ℕ) → List ℕ → List ℕ → Type 0
MovesOut old new page kept = (moved : List ℕ) × Appends old new moved × (moved ++ kept ≡ page)
