-- The rule of the words between any two steps, and what each kind of step tells (this project's own).
use Rattle.std.specs.Prelude.{◌≡◌, ℕ, ◌+◌, Bool, false, List, [], ◌∷◌, ◌++◌, map, length, replicate, slice_set, Some, None, unwrap_or}
use mathlib.Core.Option.{some}
use lib.ListN.{get_elem?}
use Rattle.atomic_table.specs.Table.{State, Me, Step}
use Rattle.atomic_table.specs.Seated.{TableId}
use Rattle.atomic_table.specs.declared.shared.Seat.{Seat}
use Rattle.marks.specs.declared.rule.View.{View}
use Rattle.marks.specs.Words.{is_known_word, IsWordOf}

-- the pen's view at first: none of so many words is known
abbrev pub pen_view : ℕ → View
pen_view buffers = record { pen = Some (replicate buffers false); loads = 0; last = None }

-- the view of a seat that reads, before its first load
abbrev pub newcomer : View
newcomer = record { pen = None; loads = 0; last = None }

-- which words are known, where the view is the pen's
abbrev pub known_of : View → List Bool
known_of v = unwrap_or v.pen []

-- the pen's view has the words of all buffers; the last word of the table is of no buffer
abbrev pub IsPen : TableId → View → Type 0
IsPen table v = (v.pen ≡ Some (known_of v)) × (length (known_of v) + 1 ≡ table.words)

-- the pen has the first seat, and its view is which words are known
abbrev pub FitsPen : List ℕ → ℕ → View → Type 0
FitsPen words id v = (known : List Bool) → v.pen ≡ Some known → (id ≡ 0) × (map is_known_word words ≡ known ++ false ∷ [])

-- each word is one that its buffer can have, and the pen's view is which of them are known
pub record IsMarked (s : State (Unit {0}) View) : Type 0 where
  pub words : (buffer word : ℕ) → get_elem? s.words buffer ≡ some word → IsWordOf buffer word
  pub pens : (id : ℕ) (v : View) → get_elem? s.views id ≡ some v → FitsPen s.words id v

-- the view after a load of this word
abbrev pub looked : ℕ → Bool → View → View
looked word found v = record v { loads = v.loads + 1; last = Some (word, found) }

-- the pen's view after a store of this word
abbrev pub rewritten : ℕ → Bool → View → View
rewritten word known v = record v { pen = Some (slice_set (known_of v) word known) }

abbrev pub Found : Step (Unit {0}) → Me (Unit {0}) View → ℕ → Me (Unit {0}) View → Type 0
Found s me found me' = me' ≡ (looked s.word (is_known_word found) me.0, me.1)

abbrev pub Wrote : Step (Unit {0}) → Me (Unit {0}) View → ℕ → Me (Unit {0}) View → Type 0
Wrote s me stored me' = me' ≡ (rewritten s.word (is_known_word stored) me.0, me.1)

abbrev pub IsSameSeat : Seat (Unit {0}) View → Seat (Unit {0}) View → Type 0
IsSameSeat s t = (t.table_id ≡ s.table_id) × (t.id ≡ s.id)
