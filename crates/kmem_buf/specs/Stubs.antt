-- What contracts see of a stub and of its slip. A stub stands in an object, and its slip is what the holder has.
use Rattle.std.specs.Prelude.{◌≡◌, ℕ, Bool, false, List, [], All}
use Rattle.atomic_table.specs.Seated.{TableId}

-- a stub: which one it is, whether it is issued, and the three facts that it was issued with (this project's own)
pub record StubState : Type 0 where
  pub home : TableId
  pub issued : Bool
  pub facts : List ℕ

-- a slip: which stub it is of, and the three facts that it was issued with (this project's own)
pub record SlipState : Type 0 where
  pub home : TableId
  pub facts : List ℕ

-- the home of no stub, for a name that a call picks
abbrev pub nowhere : TableId
nowhere = record { words = 0; slots = 0; views_name = 0; atom = 0; block = 0; offset = 0; slot_names = [] }

-- none of these stubs is issued
abbrev pub AreUnissued : List StubState → Type 0
AreUnissued stubs = All (λ (s : StubState). s.issued ≡ false) stubs
