-- A token cut off at the front of a line.
use Rattle.std.specs.Prelude.{◌≡◌, ◌<◌, ℕ, List, [], ◌∷◌, length}
use Rattle.kmem_text.specs.Grammar.{tokens_in}

-- the line has this token first and those of the rest behind it; or the token is empty and the line has none
abbrev pub Cuts : List ℕ → List ℕ → List ℕ → Type 0
Cuts line [] rest = tokens_in line ≡ []
Cuts line (byte ∷ bytes) rest = (tokens_in line ≡ (byte ∷ bytes) ∷ tokens_in rest) × (length rest < length line)
