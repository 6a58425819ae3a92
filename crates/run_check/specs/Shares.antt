-- What the replies part tells each pass, and what of it the history has still to come to.
use Rattle.std.specs.Prelude.{◌≡◌, ◌+◌, ℕ, zero, suc, List, [], ◌∷◌, ◌++◌, map, drop, length, All}
use Rattle.kmem_model.specs.declared.record_entry.RecordEntry.{RecordEntry}
use Rattle.run_check.specs.Told.{IsWithin, entry_of, of_pass}
use Rattle.run_check.specs.declared.share.Share.{Share}
use Rattle.run_check.specs.declared.told.Told.{Told}

-- all entries that are told, where the first of these passes has this number
abbrev pub told_in : ℕ → List Share → List (ℕ × RecordEntry)
told_in pass [] = []
told_in pass (s ∷ shares) = of_pass pass s.told.items ++ told_in (pass + 1) shares

-- the entries of a pass that the history has still to come to
abbrev pub left_of : Share → List RecordEntry
left_of s = map entry_of (drop s.next s.told.items)

abbrev pub left_in : List Share → ℕ → List RecordEntry
left_in [] pass = []
left_in (s ∷ shares) zero = left_of s
left_in (s ∷ shares) (suc pass) = left_in shares pass

-- the share's commands are within the script
abbrev pub IsShareWithin : ℕ → Share → Type 0
IsShareWithin names s = All (λ (t : Told). IsWithin names t.command) s.told.items
