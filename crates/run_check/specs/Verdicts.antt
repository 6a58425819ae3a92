-- What is due for an input that has a script and a printed run (this project's own rule).
use Rattle.std.specs.Prelude.{◌≡◌, ◌⊎◌, ◌<◌, ◌≤◌, ℕ, List, length, None, Some, Result, IsOk, IsErrOf, codes}
use Rattle.kmem_text.specs.Grammar.{lines_of}
use Rattle.kmem_model.specs.Checked.{checked_script, checked_fault, run_part, HasNoIllegal, IsFirstIllegal, TellsHistory}
use Rattle.run_check.specs.declared.fault.Fault.{Fault}
use Rattle.run_check.specs.declared.fault.Fault.TheVariants.{BadScript, Read, Write, Limit, NoMemory, Illegal}

-- the input is within 16 MiB, and its script is good and has at most 100,000 commands
pub record HasScript (workers : ℕ) (bytes : List ℕ) : Type 0 where
  pub size : length bytes ≤ 16777216
  pub good : checked_fault workers bytes ≡ None
  pub few : length (checked_script workers bytes).lines ≤ 100000

-- there is no fault
pub record IsLegal (workers : ℕ) (bytes : List ℕ) : Type 0 where
  pub script : HasScript workers bytes
  pub run : HasNoIllegal workers bytes

-- the fault that is due. No reading, writing and want of memory is
abbrev pub IsDueFault : ℕ → List ℕ → Fault → Type 0
IsDueFault workers bytes (BadScript line f) = (length bytes ≤ 16777216) × (checked_fault workers bytes ≡ Some (line, f))
IsDueFault workers bytes Limit = (16777216 < length bytes)
    ⊎ ((length bytes ≤ 16777216) × (checked_fault workers bytes ≡ None) × (100000 < length (checked_script workers bytes).lines))
IsDueFault workers bytes (Illegal line) = HasScript workers bytes × IsFirstIllegal workers bytes line
IsDueFault workers bytes _ = ⊥

-- it is due, or memory is wanting, or the input failed
abbrev pub IsDueOrFree : ℕ → List ℕ → Fault → Type 0
IsDueOrFree workers bytes NoMemory = Unit {0}
IsDueOrFree workers bytes fault = IsDueFault workers bytes fault

-- a line that is told is counted from 1
abbrev pub IsCounted : Fault → Type 0
IsCounted (BadScript line f) = 1 ≤ line
IsCounted (Illegal line) = 1 ≤ line
IsCounted _ = Unit {0}

-- what is printed for a run that is legal
abbrev pub legal_text : List ℕ
legal_text = codes "legal\n"

-- the run tells a history of the script
abbrev pub IsToldHistory : ℕ → List ℕ → Type 0
IsToldHistory workers bytes = TellsHistory workers (checked_script workers bytes) (run_part (lines_of bytes))

-- the fault is this one, but for want of memory, which is free, and for a read that failed
abbrev pub IsDue : Result (Unit {0}) Fault → Fault → Type 0
IsDue result due = IsErrOf result due ⊎ (IsErrOf result NoMemory ⊎ IsErrOf result Read)

-- there is no fault, but for want of memory and for a read or a write that failed
abbrev pub IsFineButForStreams : Result (Unit {0}) Fault → Type 0
IsFineButForStreams result = IsOk result ⊎ (IsErrOf result Write ⊎ (IsErrOf result NoMemory ⊎ IsErrOf result Read))
