-- How numbers are spelled in words and scripts (this project's own rule).
use Rattle.std.specs.Prelude.{ℕ, Bool, ◌&&◌, ◌==◌, not, nat_lt, List, length, slice_index, Option, Some, None, if◌then◌else◌}
use Rattle.std.specs.List.{list_all}
use Rattle.std.specs.Str.Parse.{digits_value}
use Rattle.kmem_text.specs.Texts.{is_within}

-- a 0 with digits behind it
abbrev pub has_leading_zero : List ℕ → Bool
has_leading_zero word = nat_lt 1 (length word) && slice_index word 0 == 48

-- one or more digits, with no leading zero
abbrev pub is_numeral : List ℕ → Bool
is_numeral word = nat_lt 0 (length word) && (list_all (is_within 48 57) word && not (has_leading_zero word))

-- the number that a word spells, where it lies in the range, both ends included
abbrev pub number_within : ℕ → ℕ → List ℕ → Option ℕ
number_within least most word = if is_numeral word && is_within least most (digits_value 10 word) then Some (digits_value 10 word) else None
