-- The rule of a depot's table: what its words, its slots and the views of its seats are between any two steps (this project's own).
-- Word p is the turn word of place p, and slot p has its magazine.
use Rattle.std.specs.Prelude.{◌≡◌, ◌⊎◌, ℕ, ◌+◌, ◌*◌, ◌<◌, List, [], length, Some, None}
use Rattle.std.specs.List.{sum_by}
use mathlib.Core.Option.{some}
use lib.ListN.{get_elem?}
use Rattle.atomic_table.specs.Table.{State}
use Rattle.atomic_table.specs.Seated.{TableId}
use Rattle.kmem_buf.specs.Buffers.{BufState}
use Rattle.kmem_buf.specs.Homes.{Homes}
use Rattle.magazine.specs.Ready.{AreReady}
use Rattle.depot.specs.declared.rule.Terms.{Terms}
use Rattle.depot.specs.declared.rule.View.{View}
use Rattle.kmem_buf.specs.Answers.{numbers_of}
use Rattle.depot.specs.Depot.{DepotState, full_from}

-- a depot, by its table and what that was told
abbrev pub depot_state : TableId → Terms → DepotState
depot_state table terms = record { table = table; home = terms.home; places = table.slots; seats = terms.seats }

-- the table is a depot's, and there is room for so many magazines as it has places
abbrev pub IsDepot : TableId → Terms → ℕ → Type 0
IsDepot table terms room = (table.words ≡ table.slots) × (0 < table.slots) × (0 < terms.seats) × (room ≡ table.slots)

-- the view of so many seats that were not used yet
abbrev pub opener : Homes → ℕ → View
opener home seats = record { seats = seats; home = home; put = []; taken = []; turning = None; tries = [] }

-- the view of a seat that another took in
abbrev pub spent : View
spent = opener (record { cells = []; moves = [] }) 0

-- how many seats the view stands for
abbrev pub seats_of : View → ℕ
seats_of v = v.seats

-- what all seats put in, and took out, where each full magazine has a weight
abbrev pub put_weight : (ℕ × List ℕ → ℕ) → List View → ℕ
put_weight weight views = sum_by (λ v. sum_by weight v.put) views

abbrev pub taken_weight : (ℕ × List ℕ → ℕ) → List View → ℕ
taken_weight weight views = sum_by (λ v. sum_by weight v.taken) views

module _ {X : Type 0} where
  -- the place is free, with a magazine of these numbers: its turn word tells whether that is full
  pub record IsFree (constructed : X → Type 0) (home : Homes) (s : State (List (BufState X)) View)
      (place : ℕ) (numbers : List ℕ) : Type 0 where
    pub word : ℕ
    pub magazine : List (BufState X)
    pub word_is : get_elem? s.words place ≡ some word
    pub here : get_elem? s.homes place ≡ some (some magazine)
    pub free : word < 2
    pub rounds : length magazine ≡ 8 * word
    pub numbers_are : numbers_of magazine ≡ numbers
    pub ready : AreReady constructed home magazine

  -- a seat turns the place, where it found these numbers
  pub record IsTurned (s : State (List (BufState X)) View) (owner : ℕ) (place : ℕ) (numbers : List ℕ) : Type 0 where
    pub view : View
    pub word_is : get_elem? s.words place ≡ some 2
    pub sits : get_elem? s.views owner ≡ some view
    pub turns : view.turning ≡ Some (place, numbers)

-- what the rule says of one view
pub record FitsSeat (home : Homes) (words : List ℕ) (standing : List (List ℕ)) (owner : ℕ → ℕ) (id : ℕ) (v : View) : Type 0 where
  pub home_is : 0 < v.seats → v.home ≡ home
  pub spent : v.seats ≡ 0 → (v.put ≡ []) × (v.taken ≡ []) × (v.turning ≡ None)
  pub turns : (place : ℕ) (numbers : List ℕ) → v.turning ≡ Some (place, numbers)
      → (owner place ≡ id) × (get_elem? words place ≡ some 2) × (get_elem? standing place ≡ some numbers)

-- At each place stands a magazine, where a turned place counts as its turner found it. A place is free, or the one seat that owns
-- it turns it.
-- What all seats put in is what they took out and what stands, however full magazines are weighed
pub record IsShared {X : Type 0} (constructed : X → Type 0) (home : Homes) (seats : ℕ) (s : State (List (BufState X)) View) : Type 0 where
  pub standing : List (List ℕ)
  pub owner : ℕ → ℕ
  pub words_many : length s.words ≡ length s.homes
  pub standing_many : length standing ≡ length s.homes
  pub all : sum_by seats_of s.views ≡ seats
  pub count : (weight : ℕ × List ℕ → ℕ) → put_weight weight s.views ≡ taken_weight weight s.views + sum_by weight (full_from 0 standing)
  pub places : (place : ℕ) (numbers : List ℕ) → get_elem? standing place ≡ some numbers
      → IsFree constructed home s place numbers ⊎ IsTurned s (owner place) place numbers
  pub fits : (id : ℕ) (v : View) → get_elem? s.views id ≡ some v → FitsSeat home s.words standing owner id v
