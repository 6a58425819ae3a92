-- The history part, replayed up to some line.
use Rattle.std.specs.Prelude.{◌≡◌, ℕ, List, ◌∷◌, ◌++◌, map, length, slice_get, Some}
use Rattle.kmem_model.specs.declared.record_entry.RecordEntry.{RecordEntry}
use Rattle.kmem_model.specs.Records.{no_records}
use Rattle.kmem_model.specs.History.{IsLegalHistory, IsRight, map_after, own_entries}
use Rattle.kmem_model.specs.RunLines.{place_line}
use Rattle.kmem_model.specs.Checked.{answered}

-- the lines before are the places of a legal history, whose entries come off the passes' own in turn, and the lines after
pub record HasReplayed (names workers : ℕ) (h : List (ℕ × RecordEntry)) (left : ℕ → List RecordEntry) (before : List (List ℕ)) (left' : ℕ → List RecordEntry) (after : List (List ℕ)) : Type 0 where
  pub lines : before ≡ map (λ e. place_line (answered e)) h ++ after
  pub legal : IsLegalHistory (no_records names workers) h
  pub turns : (pass : ℕ) → left pass ≡ own_entries pass h ++ left' pass

-- so many lines are replayed, and the next, if there is one, is the place of no entry that comes next and is right
pub record StopsReplay (names workers : ℕ) (left : ℕ → List RecordEntry) (before : List (List ℕ)) (count : ℕ) : Type 0 where
  pub history : List (ℕ × RecordEntry)
  pub left_then : ℕ → List RecordEntry
  pub after : List (List ℕ)
  pub replayed : HasReplayed names workers history left before left_then after
  pub counted : count ≡ length history
  pub refused : (e : ℕ × RecordEntry) (rest : List RecordEntry) → slice_get after 0 ≡ Some (place_line (answered e)) → left_then e.0 ≡ e.1 ∷ rest →
      IsRight (map_after (no_records names workers) history) e → ⊥
