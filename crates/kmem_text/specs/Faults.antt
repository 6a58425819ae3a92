-- Why an input is no script.
use Rattle.std.specs.Prelude.{◌≡◌, ◌<◌, ℕ, Option, Some, None}
use Rattle.kmem_text.specs.declared.spelling.LineFault.{LineFault}
use Rattle.kmem_text.specs.declared.script.ScriptError.{ScriptError}
use Rattle.kmem_text.specs.declared.script.ScriptError.TheVariants.{BadLine, TooMany, NoMemory}

-- the error is the first bad line, or says that there are more than 100,000 commands where no line is bad; want of memory is free
abbrev pub Explains : ScriptError → Option (ℕ × LineFault) → ℕ → Type 0
Explains (BadLine line fault) first commands = first ≡ Some (line, fault)
Explains TooMany first commands = (first ≡ None) × (100000 < commands)
Explains NoMemory first commands = Unit {0}
