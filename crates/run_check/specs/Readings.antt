-- Why an input could not be read.
use Rattle.std.specs.Prelude.{◌<◌, ℕ, List, length, Option, IfSome}
use Rattle.run_check.specs.declared.fault.Fault.{Fault}
use Rattle.run_check.specs.declared.fault.Fault.TheVariants.{BadScript, Read, Write, Limit, NoMemory, Illegal}

-- it failed, or memory is wanting, or it has more than 16 MiB
abbrev pub IsReadFault : Option (List ℕ) → Fault → Type 0
IsReadFault left Read = Unit {0}
IsReadFault left NoMemory = Unit {0}
IsReadFault left Limit = IfSome left (λ bytes. 16777216 < length bytes)
IsReadFault left _ = ⊥
