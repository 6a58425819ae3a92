-- A page of text on its way out (this project's own).
use Rattle.std.specs.Prelude.{◌≡◌, ◌≤◌, List, ℕ, ◌++◌, Option, length}
use Rattle.std.specs.Io.KnownBytes.{Appends}
use Rattle.kmem_io.specs.Streams.{AppendsFront}

-- the room is there, and the text lies in it
pub record IsPage (bytes : List ℕ) (at : ℕ) : Type 0 where
  pub room : length bytes ≡ 65536
  pub within : at ≤ length bytes

-- of the page and a piece behind it a front was appended, and the rest stands in the page now
abbrev pub Carries : Option (List ℕ) → Option (List ℕ) → List ℕ → List ℕ → List ℕ → Type 0
Carries written written' page page' piece = (moved : List ℕ) × Appends written written' moved × (moved ++ page' ≡ page ++ piece)

-- some front of them was appended
abbrev pub CarriesFront : Option (List ℕ) → Option (List ℕ) → List ℕ → List ℕ → Type 0
CarriesFront written written' page piece = AppendsFront written written' (page ++ piece)
