-- The kinds of a scan.
use Rattle.std.specs.Prelude.{Bool, if◌then◌else◌}
use Rattle.kmem_model.specs.declared.cache_state.Mode.{Mode}
use Rattle.kmem_model.specs.declared.cache_state.Mode.TheVariants.{Off, Mild, Desperate}

-- the mode of a scan that is desperate, or mild, or neither
abbrev pub mode_next : Bool → Bool → Mode
mode_next desperate mild = if desperate then Desperate else (if mild then Mild else Off)
