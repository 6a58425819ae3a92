-- How a run ends: the number of its status, and its line on standard error (this project's own rule).
use Rattle.std.specs.Prelude.{ℕ, List, [], ◌++◌, codes}
use Rattle.std.specs.Fmt.{decimal}
use Rattle.kmem_text.specs.declared.spelling.LineFault.{LineFault}
use Rattle.kmem_text.specs.declared.spelling.LineFault.TheVariants as at
use Rattle.kmemrun.specs.declared.status.Status.{Status}
use Rattle.kmemrun.specs.declared.status.Status.TheVariants as status
use Rattle.kmemrun.specs.declared.status.Ending.{Ending}
use Rattle.kmemrun.specs.declared.status.Ending.TheVariants as ending
use Rattle.run_check.specs.declared.fault.Fault.{Fault}
use Rattle.run_check.specs.declared.fault.Fault.TheVariants as fault

-- the number of a status
abbrev pub status_code : Status → ℕ
status_code status.Fine = 0
status_code status.Usage = 1
status_code status.BadScript = 2
status_code status.ReadFault = 3
status_code status.WriteFault = 4
status_code status.Limit = 5
status_code status.NoMemory = 6
status_code status.Illegal = 7

-- the status of a fault
abbrev pub fault_status : Fault → Status
fault_status (fault.BadScript line f) = status.BadScript
fault_status fault.Read = status.ReadFault
fault_status fault.Write = status.WriteFault
fault_status fault.Limit = status.Limit
fault_status fault.NoMemory = status.NoMemory
fault_status (fault.Illegal line) = status.Illegal

-- the status of an ending
abbrev pub ending_status : Ending → Status
ending_status ending.Fine = status.Fine
ending_status ending.Usage = status.Usage
ending_status (ending.Failed f) = fault_status f

-- the word for a fault of a line
abbrev pub fault_word : LineFault → List ℕ
fault_word at.Worker = codes "worker"
fault_word at.Command = codes "command"
fault_word at.Words = codes "words"
fault_word at.Name = codes "name"
fault_word at.Value = codes "value"
fault_word at.Tag = codes "tag"

-- the line of a script whose first bad line this is
abbrev pub bad_line_text : ℕ → LineFault → List ℕ
bad_line_text line f = codes "kmemrun: line " ++ (decimal line ++ (codes ": " ++ (fault_word f ++ codes "\n")))

-- the line of a run whose first illegal line this is
abbrev pub illegal_line_text : ℕ → List ℕ
illegal_line_text line = codes "kmemrun: illegal line " ++ (decimal line ++ codes "\n")

-- the line of a fault
abbrev pub fault_line : Fault → List ℕ
fault_line (fault.BadScript line f) = bad_line_text line f
fault_line fault.Read = codes "kmemrun: read fault\n"
fault_line fault.Write = codes "kmemrun: write fault\n"
fault_line fault.Limit = codes "kmemrun: limit\n"
fault_line fault.NoMemory = codes "kmemrun: no memory\n"
fault_line (fault.Illegal line) = illegal_line_text line

-- what an ending tells on standard error
abbrev pub ending_line : Ending → List ℕ
ending_line ending.Fine = []
ending_line ending.Usage = codes "kmemrun: usage\n"
ending_line (ending.Failed f) = fault_line f
