-- What each step of a depot tells the seat that makes it, and a seat between its steps.
use Rattle.std.specs.Prelude.{◌≡◌, ℕ, ◌+◌, ◌-◌, ◌*◌, ◌<◌, ◌≤◌, List, [], ◌∷◌, ◌++◌, length, Option, Some, None}
use Rattle.std.specs.List.{sum_by}
use Rattle.atomic_table.specs.Table.{Me, Step, rest}
use Rattle.atomic_table.specs.Seated.{TableId}
use Rattle.atomic_table.specs.declared.shared.Seat.{Seat}
use Rattle.kmem_buf.specs.Buffers.{BufState}
use Rattle.kmem_buf.specs.Homes.{Homes}
use Rattle.magazine.specs.Ready.{AreReady}
use Rattle.depot.specs.declared.rule.View.{View}
use Rattle.kmem_buf.specs.Answers.{numbers_of}
use Rattle.depot.specs.Depot.{DepotSeatState, full_at, IsOther}
use Rattle.depot.specs.Rule.{opener, spent}

-- the view after a swap of this place's turn word that found this
abbrev pub tried : ℕ → ℕ → View → View
tried place found v = record v { tries = v.tries ++ (place, found) ∷ [] }

-- the same where the seat turns the place from then on
abbrev pub took : ℕ → ℕ → List ℕ → View → View
took place found numbers v = record v { turning = Some (place, numbers); tries = v.tries ++ (place, found) ∷ [] }

-- the view after the place was freed with the magazine that was found there
abbrev pub kept_back : View → View
kept_back v = record v { turning = None }

-- the view after the place was freed with another magazine
abbrev pub traded : ℕ → List ℕ → List ℕ → View → View
traded place out brought v = record v { put = v.put ++ full_at place brought; taken = v.taken ++ full_at place out; turning = None }

-- the numbers that were found at the place that the seat turns
abbrev pub numbers_in : Option (ℕ × List ℕ) → List ℕ
numbers_in None = []
numbers_in (Some turning) = turning.1

abbrev pub was_of : View → List ℕ
was_of v = numbers_in v.turning

-- the numbers of the magazine in hand
abbrev pub hand_of : {X : Type 0} → List (ℕ × List (BufState X)) → List ℕ
hand_of [] = []
hand_of (slot ∷ slots) = numbers_of slot.1

-- the view of the first seat after it dealt one
abbrev pub dealt_one : View → View
dealt_one v = record v { seats = v.seats - 1 }

abbrev pub newcomer : View → View
newcomer v = opener v.home 1

abbrev pub joined : View → View → View
joined v w = record v { seats = v.seats + w.seats; put = v.put ++ w.put; taken = v.taken ++ w.taken }

abbrev pub Sat : Type 0 → Type 0
Sat X = Me (List (BufState X)) View

module _ {X : Type 0} where
  -- a swap of a turn word takes the place with its magazine, unless another seat turns it
  pub record Turned (constructed : X → Type 0) (st : Step (List (BufState X))) (me : Sat X) (found : ℕ) (me' : Sat X) : Type 0 where
    pub most : found ≤ 2
    pub turned : found ≡ 2 → me' ≡ (tried st.word 2 me.0, me.1)
    pub taken : found < 2 → (magazine : List (BufState X))
        × (me' ≡ (took st.word found (numbers_of magazine) me.0, (st.word, magazine) ∷ me.1))
        × (length magazine ≡ 8 * found) × AreReady constructed me.0.home magazine

  abbrev pub Left : Step (List (BufState X)) → Sat X → ℕ → Sat X → Type 0
  Left st me stored me' = me' ≡ (kept_back me.0, rest me.1)

  abbrev pub Settled : Step (List (BufState X)) → Sat X → ℕ → Sat X → Type 0
  Settled st me stored me' = me' ≡ (traded st.word (was_of me.0) (hand_of me.1) me.0, rest me.1)

  -- a seat between its calls
  abbrev pub IsResting : Sat X → Type 0
  IsResting me = (me.1 ≡ []) × (me.0.turning ≡ None) × (me.0.seats ≡ 1)

  -- the seat turns this place, and has in hand a magazine that this turn word is right for
  pub record IsTurning (constructed : X → Type 0) (place word : ℕ) (magazine : List (BufState X)) (me : Sat X) : Type 0 where
    pub hand : me.1 ≡ (place, magazine) ∷ []
    pub turns : me.0.turning ≡ Some (place, was_of me.0)
    pub one : me.0.seats ≡ 1
    pub free : word < 2
    pub rounds : length magazine ≡ 8 * word
    pub ready : AreReady constructed me.0.home magazine

-- nothing was done with the seats that the view stands for
abbrev pub IsUnused : View → Type 0
IsUnused v = v ≡ opener v.home v.seats

-- the seat is one of this table, which is a depot's
abbrev pub IsOf : TableId → TableId → Type 0
IsOf seat line = (seat ≡ line) × (line.words ≡ line.slots)

abbrev pub IsSameSeat : {S V : Type 0} → Seat S V → Seat S V → Type 0
IsSameSeat s t = (t.table_id ≡ s.table_id) × (t.id ≡ s.id)

-- a seat, as contracts see it
abbrev pub state_of : TableId → View → DepotSeatState
state_of table v = record { table = table; home = v.home; put = v.put; taken = v.taken; tries = v.tries }

-- the view that a badge has, or one of no seat
abbrev pub view_in : List View → View
view_in [] = spent
view_in (v ∷ vs) = v

-- the badge of a seat between its calls: it turns no place
abbrev pub IsSitting : List View → Type 0
IsSitting views = (views ≡ view_in views ∷ []) × ((view_in views).turning ≡ None) × ((view_in views).seats ≡ 1)

module _ {X : Type 0} where
  -- a magazine that this turn word is right for, whose rounds may be handed out
  pub record IsFit (constructed : X → Type 0) (home : Homes) (word : ℕ) (magazine : List (BufState X)) : Type 0 where
    pub rounds : length magazine ≡ 8 * word
    pub ready : AreReady constructed home magazine

  -- a try at a place that found the turn word that it wanted
  abbrev pub HasTraded : ℕ → ℕ → List ℕ → List ℕ → Sat X → Sat X → Type 0
  HasTraded place wanted out brought me me' = me' ≡ (traded place out brought (tried place wanted me.0), [])

  -- a try at a place that found another
  pub record HasTried (place wanted : ℕ) (me me' : Sat X) : Type 0 where
    pub found : ℕ
    pub other : IsOther wanted found
    pub rests : me' ≡ (tried place found me.0, [])

-- the seat has taken in these seats
pub record HasGathered {X : Type 0} (seats : List DepotSeatState) (me : Sat X) : Type 0 where
  pub hand : me.1 ≡ []
  pub turning : me.0.turning ≡ None
  pub many : me.0.seats ≡ length seats
  pub some : 0 < me.0.seats
  pub put : (weight : ℕ × List ℕ → ℕ) → sum_by weight me.0.put ≡ sum_by (λ s. sum_by weight s.put) seats
  pub taken : (weight : ℕ × List ℕ → ℕ) → sum_by weight me.0.taken ≡ sum_by (λ s. sum_by weight s.taken) seats
