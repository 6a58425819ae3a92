-- What `one` writes for an input, or why it writes nothing (this project's own rule).
use Rattle.std.specs.Prelude.{◌≡◌, ◌++◌, ◌*◌, ℕ, nat_lt, List, length, Option, Some, None, Result, Ok, Err, if◌then◌else◌}
use Rattle.kmem_text.specs.Grammar.{Plain, script_of, first_bad_of}
use Rattle.kmem_text.specs.declared.spelling.LineFault.{LineFault}
use Rattle.kmem_model.specs.Records.{no_records}
use Rattle.kmem_model.specs.declared.record_entry.RecordEntry.{RecordEntry}
use Rattle.kmem_model.specs.History.{IsLegalHistory, IsShared, IsFullExactly, replies_of}
use Rattle.kmem_model.specs.One.{one_workers}
use Rattle.kmem_model.specs.OneRun.{reply_lines, one_output}
use Rattle.run_check.specs.declared.fault.Fault.{Fault}
use Rattle.run_check.specs.declared.fault.Fault.TheVariants as fault

-- the output for a script; or its first bad line, or that it has too many commands
abbrev pub script_answer : ℕ → ℕ → Option ℕ → Option (ℕ × LineFault) → Plain → Result (List ℕ) Fault
script_answer slabs chunks every (Some bad) script = Err (fault.BadScript bad.0 bad.1)
script_answer slabs chunks every None script =
    if nat_lt 100000 (length script.lines)
    then Err fault.Limit
    else Ok (one_output slabs chunks every script)

-- what `one` writes for an input of at most 16 MiB, or why it writes nothing
abbrev pub one_answer : ℕ → ℕ → Option ℕ → List ℕ → Result (List ℕ) Fault
one_answer slabs chunks every bytes =
    if nat_lt 16777216 (length bytes)
    then Err fault.Limit
    else script_answer slabs chunks every (first_bad_of 16 bytes) (script_of 16 bytes)

-- The text is that of a history: its replies, each on a line, and what follows them. The history is legal for a plain map of records; it
-- has
-- each line's command once, and each worker's in their order; and `full` stands in it exactly where the name of a put is absent and as many
-- records live as there are buffers
pub record IsTextOfHistory (slabs chunks : ℕ) (script : Plain) (text : List ℕ) : Type 0 where
  pub history : List (ℕ × RecordEntry)
  pub behind : List ℕ
  pub whole : text ≡ reply_lines script.names (replies_of history) ++ behind
  pub legal : IsLegalHistory (no_records (length script.names) one_workers) history
  pub shared : IsShared history script.lines
  pub full : IsFullExactly (slabs * chunks) (no_records (length script.names) one_workers) history

-- what holds of the line and the check of a bad script
abbrev pub IfBadScript : Fault → (ℕ → LineFault → Type 0) → Type 0
IfBadScript (fault.BadScript line f) P = P line f
IfBadScript fault.Read P = Unit {0}
IfBadScript fault.Write P = Unit {0}
IfBadScript fault.Limit P = Unit {0}
IfBadScript fault.NoMemory P = Unit {0}
IfBadScript (fault.Illegal line) P = Unit {0}

-- what contracts see of a run of `one` that was opened
pub record OneView : Type 0 where
  pub slabs : ℕ
  pub chunks : ℕ
  pub every : Option ℕ
  pub script : Plain
