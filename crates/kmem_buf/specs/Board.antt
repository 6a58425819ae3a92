-- The rule of the table that a stub and its slip share (this project's own).
use Rattle.std.specs.Prelude.{◌≡◌, ℕ, Bool, true, false, List, [], ◌∷◌}
use mathlib.Core.Option.{Option, none, some}
use lib.ListN.{get_elem?}
use Rattle.atomic_table.specs.Table.{State, Me, Step}
use Rattle.atomic_table.specs.Seated.{TableId}
use Rattle.kmem_buf.specs.declared.board.View.{View}
use Rattle.kmem_buf.specs.declared.board.View.TheVariants.{Free, Issued, Met, Out, Clashed, Gone}

-- the facts that a seat's view has
abbrev pub facts_of : View → List ℕ
facts_of (Free f) = f
facts_of (Issued f) = f
facts_of (Met f g) = f
facts_of (Out f) = f
facts_of Clashed = []
facts_of Gone = []

-- the facts that a badge has, by its views
abbrev pub facts_in : List View → List ℕ
facts_in [] = []
facts_in (v ∷ vs) = facts_of v

-- whether the view is that of an issued stub
abbrev pub is_issued : View → Bool
is_issued (Free f) = false
is_issued (Issued f) = true
is_issued (Met f g) = false
is_issued (Out f) = false
is_issued Clashed = false
is_issued Gone = false

-- what a view at the place i may be, where one place is the stub's, one the slip's, and `out` has the facts of the slip that is out
abbrev pub FitsPlace : ℕ → ℕ → Option (List ℕ) → ℕ → View → Type 0
FitsPlace stub slip out i (Free f) = (i ≡ stub) × (out ≡ none)
FitsPlace stub slip out i (Issued f) = (i ≡ stub) × (out ≡ some f)
FitsPlace stub slip out i (Met f g) = (i ≡ stub) × (out ≡ none) × (f ≡ g)
FitsPlace stub slip out i (Out f) = (i ≡ slip) × (out ≡ some f)
FitsPlace stub slip out i Clashed = ⊥
FitsPlace stub slip out i Gone = Unit {0}

-- one seat at most is a stub's and one a slip's. Where there is a slip, the stub is issued with its facts, and what a stub has met had
-- its facts
pub record AreTied (views : List View) : Type 0 where
  pub stub : ℕ
  pub slip : ℕ
  pub out : Option (List ℕ)
  pub fits : (i : ℕ) (v : View) → get_elem? views i ≡ some v → FitsPlace stub slip out i v

-- the rule of the table: it speaks of the views alone
abbrev pub Agrees : State (Unit {0}) View → Type 0
Agrees s = AreTied s.views

-- the stub's view where it takes in that of a slip
abbrev pub met : View → View → View
met (Free f) w = Clashed
met (Issued f) (Free g) = Clashed
met (Issued f) (Issued g) = Clashed
met (Issued f) (Met g h) = Clashed
met (Issued f) (Out g) = Met f g
met (Issued f) Clashed = Clashed
met (Issued f) Gone = Clashed
met (Met f g) w = Clashed
met (Out f) w = Clashed
met Clashed w = Clashed
met Gone w = Clashed

-- the stub's part where a slip is cut off
abbrev pub issued_part : View → View
issued_part (Free f) = Issued f
issued_part (Issued f) = Clashed
issued_part (Met f g) = Clashed
issued_part (Out f) = Clashed
issued_part Clashed = Clashed
issued_part Gone = Clashed

-- the slip's part
abbrev pub out_part : View → View
out_part (Free f) = Out f
out_part (Issued f) = Clashed
out_part (Met f g) = Clashed
out_part (Out f) = Clashed
out_part Clashed = Clashed
out_part Gone = Clashed

-- what a view that has met a slip shows
abbrev pub Showed : View → Type 0
Showed (Free f) = Unit {0}
Showed (Issued f) = Unit {0}
Showed (Met f g) = f ≡ g
Showed (Out f) = Unit {0}
Showed Clashed = ⊥
Showed Gone = Unit {0}

-- a stub that is not issued notes these facts
abbrev pub Noted : List ℕ → Step (Unit {0}) → Me (Unit {0}) View → ℕ → Me (Unit {0}) View → Type 0
Noted facts s before found after = after ≡ (Free facts, before.1)

-- the issue ends, and what the stub has met was its own slip
abbrev pub Ended : Step (Unit {0}) → Me (Unit {0}) View → ℕ → Me (Unit {0}) View → Type 0
Ended s before found after = Showed before.0 × (after ≡ (Free (facts_of before.0), before.1))

-- a stub has the key where it is not issued
abbrev pub HasKey : View → TableId → TableId → ℕ → List View → Type 0
HasKey (Free f) home of id key = (of ≡ home) × (id ≡ 0) × (key ≡ Gone ∷ [])
HasKey (Issued f) home of id key = Unit {0}
HasKey (Met f g) home of id key = ⊥
HasKey (Out f) home of id key = ⊥
HasKey Clashed home of id key = ⊥
HasKey Gone home of id key = ⊥

-- the view of a stub between two calls
abbrev pub IsStub : View → Type 0
IsStub (Free f) = Unit {0}
IsStub (Issued f) = Unit {0}
IsStub (Met f g) = ⊥
IsStub (Out f) = ⊥
IsStub Clashed = ⊥
IsStub Gone = ⊥

-- the view of a stub that has just taken in a slip
abbrev pub IsMeeting : View → Type 0
IsMeeting (Free f) = ⊥
IsMeeting (Issued f) = ⊥
IsMeeting (Met f g) = Unit {0}
IsMeeting (Out f) = ⊥
IsMeeting Clashed = Unit {0}
IsMeeting Gone = ⊥
