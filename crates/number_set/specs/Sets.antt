-- What contracts see of a set of numbers (this project's own).
use Rattle.std.specs.Prelude.{ℕ, Bool, false, List, slice_index_or}

pub record SetState : Type 0 where
  -- how many levels its tree has
  pub levels : ℕ
  -- for each number that it may hold whether it does
  pub flags : List Bool

abbrev pub has : SetState → ℕ → Bool
has s n = slice_index_or s.flags n false
