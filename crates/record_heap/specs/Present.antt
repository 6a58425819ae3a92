-- The names that are present, beside their addresses (this project's own).
use Rattle.std.specs.Prelude.{ℕ, ◌≡◌, ◌≤◌, Option, None, List, is_some, length, slice_index_or}
use Rattle.number_set.specs.Sets.{SetState, has}

-- the set has exactly the names that have an address, and its tree has three levels
pub record IsPresent (addresses : List (Option ℕ)) (present : SetState) : Type 0 where
  pub room : length addresses ≤ length present.flags
  pub tall : present.levels ≡ 3
  pub same : (name : ℕ) → has present name ≡ is_some (slice_index_or addresses name None)
