-- Why some bytes are no script.
use Rattle.std.specs.Prelude.{◌≡◌, ◌<◌, ℕ, List, length, None, Some}
use Rattle.kmem_text.specs.Grammar.{script_of, first_bad_of}
use Rattle.run_check.specs.declared.fault.Fault.{Fault}
use Rattle.run_check.specs.declared.fault.Fault.TheVariants.{BadScript, Read, Write, Limit, NoMemory, Illegal}

abbrev pub IsScriptFault : ℕ → List ℕ → Fault → Type 0
IsScriptFault workers bytes (BadScript line f) = first_bad_of workers bytes ≡ Some (line, f)
IsScriptFault workers bytes Limit = (first_bad_of workers bytes ≡ None) × (100000 < length (script_of workers bytes).lines)
IsScriptFault workers bytes NoMemory = Unit {0}
IsScriptFault workers bytes _ = ⊥
