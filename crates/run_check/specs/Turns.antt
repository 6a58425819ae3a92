-- A line of the history part, and the entry that it places.
use Rattle.std.specs.Prelude.{◌≡◌, ◌==◌, ℕ, List, ◌∷◌, slice_get, Some, if◌then◌else◌}
use Rattle.kmem_model.specs.declared.record_entry.RecordEntry.{RecordEntry}
use Rattle.kmem_model.specs.History.{worker_of}
use Rattle.kmem_model.specs.Records.{RecordMap}
use Rattle.kmem_model.specs.RunLines.{place_line}
use Rattle.kmem_model.specs.Checked.{answered}
use Rattle.kmem_model.specs.RecordStep.{IsInRange}
use Rattle.run_check.specs.Replays.{IsTaken, IsWrong}
use Rattle.run_check.specs.Shares.{left_in}
use Rattle.run_check.specs.declared.share.Share.{Share}

-- it is the next entry of its pass
abbrev pub TakesTurn : (ℕ → List RecordEntry) → ℕ × RecordEntry → (ℕ → List RecordEntry) → Type 0
TakesTurn old e new = (pass : ℕ) → old pass ≡ (if pass == e.0 then e.1 ∷ new pass else new pass)

-- the first of these lines is the place of the next entry of its pass, and the map takes it
pub record TakesPlace (m : RecordMap) (old : List Share) (before : List (List ℕ)) (m' : RecordMap) (new : List Share) (after : List (List ℕ)) : Type 0 where
  pub entry : ℕ × RecordEntry
  pub line : before ≡ place_line (answered entry) ∷ after
  pub range : IsInRange m (worker_of entry.0) entry.1.command
  pub taken : IsTaken m (worker_of entry.0) entry.1.command entry.1.reply m'
  pub turn : TakesTurn (left_in old) entry (left_in new)

-- the first of these lines, if there is one, is the place of no entry that is the next of its pass and is right
abbrev pub RefusesPlace : RecordMap → (ℕ → List RecordEntry) → List (List ℕ) → Type 0
RefusesPlace m old lines = (e : ℕ × RecordEntry) (rest : List RecordEntry) → slice_get lines 0 ≡ Some (place_line (answered e)) →
    old e.0 ≡ e.1 ∷ rest → IsWrong m (worker_of e.0) e.1.command e.1.reply
