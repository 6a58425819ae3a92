-- What is due for the script of a run on threads (this project's own rule).
use Rattle.std.specs.Prelude.{◌≡◌, ◌⊎◌, ◌<◌, ◌≤◌, ℕ, List, length, None, Some, Result, IsOk, IsErrOf}
use Rattle.kmem_text.specs.Grammar.{script_of, first_bad_of}
use Rattle.run_check.specs.declared.fault.Fault.{Fault}
use Rattle.run_check.specs.declared.fault.Fault.TheVariants.{BadScript, Read, Write, Limit, NoMemory}

-- the input is within 16 MiB, and its script is good and has at most 100,000 commands
pub record HasGoodScript (workers : ℕ) (bytes : List ℕ) : Type 0 where
  pub size : length bytes ≤ 16777216
  pub good : first_bad_of workers bytes ≡ None
  pub few : length (script_of workers bytes).lines ≤ 100000

-- the fault that is due. No reading, writing and want of memory is
abbrev pub IsInputFault : ℕ → List ℕ → Fault → Type 0
IsInputFault workers bytes (BadScript line f) = (length bytes ≤ 16777216) × (first_bad_of workers bytes ≡ Some (line, f))
IsInputFault workers bytes Limit = (16777216 < length bytes)
    ⊎ ((length bytes ≤ 16777216) × (first_bad_of workers bytes ≡ None) × (100000 < length (script_of workers bytes).lines))
IsInputFault workers bytes _ = ⊥

-- it is due, or memory is wanting
abbrev pub IsInputOrFree : ℕ → List ℕ → Fault → Type 0
IsInputOrFree workers bytes NoMemory = Unit {0}
IsInputOrFree workers bytes fault = IsInputFault workers bytes fault

module _ {A : Type 0} where
  -- the fault is this one, but for want of memory, which is free, and for a read that failed
  abbrev pub IsDueAt : Result A Fault → Fault → Type 0
  IsDueAt result due = IsErrOf result due ⊎ (IsErrOf result NoMemory ⊎ IsErrOf result Read)

  -- there is no fault, but for want of memory and for a read or a write that failed
  abbrev pub IsServed : Result A Fault → Type 0
  IsServed result = IsOk result ⊎ (IsErrOf result Write ⊎ (IsErrOf result NoMemory ⊎ IsErrOf result Read))
