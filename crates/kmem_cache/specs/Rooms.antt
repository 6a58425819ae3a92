-- Room that nobody touches (this project's own).
use Rattle.std.specs.Prelude.{◌≡◌, ℕ, ◌≤◌, [], ◌∷◌, vec_capacity, Vec}
use Rattle.std.specs.declared.alloc.Global.{Global}
use mathlib.Core.Option.{some}
use Rattle.atomic_table.specs.Table.{State}

-- the table's one slot is at home, with a list that is empty and has room for so many values
abbrev pub IsRoom : {S : Type 0} → ℕ → State (Vec S Global) (Unit {0}) → Type 0
IsRoom {S} count s = (values : Vec S Global) × (s.homes ≡ some values ∷ []) × (values.items ≡ []) × (count ≤ vec_capacity values)
