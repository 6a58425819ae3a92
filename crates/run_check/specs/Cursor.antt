-- The lines that are left of an input.
use Rattle.std.specs.Prelude.{ℕ, List, map}
use Rattle.std.specs.Str.Lines.{strip_carriage_return}
use Rattle.kmem_text.specs.Grammar.{lines_of}

-- the lines of these bytes, without carriage returns at their ends
abbrev pub lines_in : List ℕ → List (List ℕ)
lines_in bytes = map strip_carriage_return (lines_of bytes)
