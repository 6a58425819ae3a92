-- When a fault is due.
use Rattle.std.specs.Prelude.{ℕ}
use Rattle.run_check.specs.declared.fault.Fault.{Fault}
use Rattle.run_check.specs.declared.fault.Fault.TheVariants.{BadScript, Read, Write, Limit, NoMemory, Illegal}

-- what holds of the line of an illegal run; want of memory is free, and no other fault comes
abbrev pub IfIllegal : Fault → (ℕ → Type 0) → Type 0
IfIllegal (Illegal line) P = P line
IfIllegal NoMemory P = Unit {0}
IfIllegal _ P = ⊥
