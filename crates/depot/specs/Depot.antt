-- What contracts see of a depot and of its seats, and what a swap does.
-- A depot of full and empty magazines is from Bonwick and Adams 2001; that its places are turned one at a time is this project's own.
use Rattle.std.specs.Prelude.{◌≡◌, ◌≢◌, ◌⊎◌, ℕ, ◌+◌, ◌<◌, ◌≤◌, List, [], ◌∷◌, ◌++◌, length, All}
use Rattle.std.specs.List.{sum_by, enumerate_from}
use Rattle.atomic_table.specs.Seated.{TableId}
use Rattle.kmem_buf.specs.Homes.{Homes}
use Rattle.magazine.specs.Layer.{IsFull}

-- a depot: which one it is, the homes that its buffers are of, and how many places and seats it has
pub record DepotState : Type 0 where
  pub table : TableId
  pub home : Homes
  pub places : ℕ
  pub seats : ℕ

-- a seat: its depot and the homes of that, the full magazines that it put in and took out, and what its swaps of turn words found.
-- A full magazine is a place and the numbers of the rounds there. A finding is a place and its turn word: 0 for an empty magazine,
-- 1 for a full one, 2 for a place that another seat turned
pub record DepotSeatState : Type 0 where
  pub table : TableId
  pub home : Homes
  pub put : List (ℕ × List ℕ)
  pub taken : List (ℕ × List ℕ)
  pub tries : List (ℕ × ℕ)

-- a seat of this depot that was not used yet
abbrev pub fresh_depot_seat : DepotState → DepotSeatState
fresh_depot_seat depot = record { table = depot.table; home = depot.home; put = []; taken = []; tries = [] }

-- the seat is one of this depot
abbrev pub IsDepotSeat : DepotState → DepotSeatState → Type 0
IsDepotSeat depot seat = (seat.table ≡ depot.table) × (seat.home ≡ depot.home)

-- the magazine of a place, unless it is empty
abbrev pub full_at : ℕ → List ℕ → List (ℕ × List ℕ)
full_at place [] = []
full_at place (n ∷ numbers) = (place, n ∷ numbers) ∷ []

-- the full ones of the magazines that stand at the places from this one on
abbrev pub full_from : ℕ → List (List ℕ) → List (ℕ × List ℕ)
full_from place [] = []
full_from place (numbers ∷ rest) = full_at place numbers ++ full_from (place + 1) rest

-- a magazine is full or empty
abbrev pub IsFullOrEmpty : {A : Type 0} → List A → Type 0
IsFullOrEmpty rounds = (rounds ≡ []) ⊎ IsFull rounds

-- a swap found another turn word than the wanted one: that of the other kind of magazine, or of a place that another seat turned
abbrev pub IsOther : ℕ → ℕ → Type 0
IsOther wanted found = (found ≤ 2) × (found ≢ wanted)

-- a call that found a place with the turn word that it wanted, after others that it found otherwise, in order: it took out the
-- magazine that stood there, and the one that it brought stays
pub record HasSwapped (places wanted : ℕ) (out brought : List ℕ) (old new : DepotSeatState) : Type 0 where
  pub place : ℕ
  pub within : place < places
  pub found : List ℕ
  pub before : length found ≡ place
  pub others : All (IsOther wanted) found
  pub seat : new ≡ record old {
    put = old.put ++ full_at place brought;
    taken = old.taken ++ full_at place out;
    tries = old.tries ++ enumerate_from 0 (found ++ wanted ∷ []);
  }

-- a call that tried each place once, in order, and found none with the turn word that it wanted
pub record WasRefused (places wanted : ℕ) (old new : DepotSeatState) : Type 0 where
  pub found : List ℕ
  pub each : length found ≡ places
  pub others : All (IsOther wanted) found
  pub seat : new ≡ record old { tries = old.tries ++ enumerate_from 0 found }

-- how many full magazines these seats put in, and took out
abbrev pub put_by : List DepotSeatState → ℕ
put_by seats = sum_by (λ s. length s.put) seats

abbrev pub taken_by : List DepotSeatState → ℕ
taken_by seats = sum_by (λ s. length s.taken) seats

-- the same where each full magazine has a weight
abbrev pub put_weight_by : (ℕ × List ℕ → ℕ) → List DepotSeatState → ℕ
put_weight_by weight seats = sum_by (λ s. sum_by weight s.put) seats

abbrev pub taken_weight_by : (ℕ × List ℕ → ℕ) → List DepotSeatState → ℕ
taken_weight_by weight seats = sum_by (λ s. sum_by weight s.taken) seats
