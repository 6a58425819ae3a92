-- Levels of words: a word of one level has its place in the level above exactly where it isn't 0 (this project's own).
use Rattle.std.specs.Prelude.{ℕ, ◌≡◌, ◌<◌, ◌≤◌, ◌+◌, ◌-◌, ◌*◌, ◌^◌, ◌==◌, not, List, [], length, slice_index, slice_index_or}
use Rattle.number_set.specs.Places.{is_marked}

-- the words of a level, the lowest being level 0
abbrev pub level_of : List (List ℕ) → ℕ → List ℕ
level_of levels k = slice_index_or levels k []

-- the upper level tells which words of the lower one aren't 0
abbrev pub SumsUp : List ℕ → List ℕ → Type 0
SumsUp lower upper = (i : ℕ) → is_marked upper i ≡ not (slice_index lower i == 0)

-- each level from this one on is told by the next
abbrev pub SumsFrom : ℕ → List (List ℕ) → Type 0
SumsFrom from levels = (k : ℕ) → from ≤ k → k + 1 < length levels → SumsUp (level_of levels k) (level_of levels (k + 1))

-- each word has a place in the level above, and the highest level is one word
pub record AreSized (levels : List (List ℕ)) : Type 0 where
  pub some : 0 < length levels
  pub few : (k : ℕ) → length (level_of levels k) ≤ 2 ^ 20
  pub fits : (k : ℕ) → k + 1 < length levels → length (level_of levels k) ≤ length (level_of levels (k + 1)) * 64
  pub top : length (level_of levels (length levels - 1)) ≡ 1

-- what always holds of levels
pub record AreLevels (levels : List (List ℕ)) : Type 0 where
  pub sized : AreSized levels
  pub sums : SumsFrom 0 levels
