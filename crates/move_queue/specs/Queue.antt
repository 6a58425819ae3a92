-- What contracts see of a queue of moves and of its seats, and what a call does (this project's own).
use Rattle.std.specs.Prelude.{◌≡◌, ℕ, ◌+◌, ◌-◌, ◌<◌, ◌≤◌, Bool, false, List, [], ◌∷◌, ◌++◌, map, length, All}
use Rattle.std.specs.List.{sum_by, enumerate_from, range_with_len}
use mathlib.Core.Option.{some}
use lib.ListN.{get_elem?}
use Rattle.atomic_table.specs.Seated.{TableId}
use Rattle.object_cache.specs.Moves.{JobState}
use Rattle.table_sums.specs.Spread.{IsSpread}
use Rattle.move_queue.specs.declared.rule.Terms.{Terms}

-- a queue: the tables that it is, what it was told, and how many jobs it can hold
pub record QueueState : Type 0 where
  pub ring : TableId
  pub count : TableId
  pub terms : Terms
  pub capacity : ℕ

-- a seat: the queue that it is of, how many pushes it may make yet, how many of its pushes were refused, the jobs that it pushed and
-- popped, each with its number among all pushes of the queue or among all pops, and its mark: it is done from a pop that found
-- nothing until its next push
pub record QueueSeatState (X : Type 0) : Type 0 where
  pub ring : TableId
  pub count : TableId
  pub terms : Terms
  pub left : ℕ
  pub refused : ℕ
  pub pushed : List (ℕ × JobState X)
  pub popped : List (ℕ × JobState X)
  pub done : Bool

-- the two numbers of a seat, as they were when they were noted
pub record QueueLogState : Type 0 where
  pub pushed : ℕ
  pub refused : ℕ

-- a seat of this queue that was not used yet, with so many pushes
abbrev pub fresh_queue_seat : {X : Type 0} → QueueState → ℕ → QueueSeatState X
fresh_queue_seat queue quota =
    record {
      ring = queue.ring;
      count = queue.count;
      terms = queue.terms;
      left = quota;
      refused = 0;
      pushed = [];
      popped = [];
      done = false;
    }

-- the numbers of jobs
abbrev pub numbers_in : {A : Type 0} → List (ℕ × A) → List ℕ
numbers_in entries = map (λ e. e.0) entries

-- each job stands in the list at its number
abbrev pub AreIn : {A : Type 0} → List A → List (ℕ × A) → Type 0
AreIn jobs entries = All (λ e. get_elem? jobs e.0 ≡ some e.1) entries

-- the number is above those of these jobs
abbrev pub IsLater : {A : Type 0} → ℕ → List (ℕ × A) → Type 0
IsLater number entries = All (λ e. e.0 < number) entries

module _ {X : Type 0} where
  -- the seat is one of this queue
  pub record IsQueueSeat (queue : QueueState) (seat : QueueSeatState X) : Type 0 where
    pub ring : seat.ring ≡ queue.ring
    pub count : seat.count ≡ queue.count
    pub terms : seat.terms ≡ queue.terms

  -- the job went in, last of all so far
  pub record HasPushed (job : JobState X) (old new : QueueSeatState X) : Type 0 where
    pub number : ℕ
    pub later : IsLater number old.pushed
    pub seat : new ≡ record old { left = old.left - 1; pushed = old.pushed ++ (number, job) ∷ []; done = false }

  -- the job came out, the first of those that stood
  pub record HasPopped (job : JobState X) (old new : QueueSeatState X) : Type 0 where
    pub number : ℕ
    pub later : IsLater number old.popped
    pub seat : new ≡ record old { popped = old.popped ++ (number, job) ∷ [] }

  -- at one moment of the call the queue held as many jobs as it can: so many more were pushed than popped by then, and with what
  -- this seat may push yet these are no more than all quotas
  pub record WasFull (queue : QueueState) (seat : QueueSeatState X) : Type 0 where
    pub pushes : ℕ
    pub pops : ℕ
    pub full : pushes ≡ pops + queue.capacity
    pub mine : length seat.pushed ≤ pushes
    pub popped : length seat.popped ≤ pops
    pub within : pushes + seat.left ≤ queue.terms.quotas

  -- how many jobs the seats pushed, and popped
  abbrev pub pushed_by : List (QueueSeatState X) → ℕ
  pushed_by seats = sum_by (λ s. length s.pushed) seats

  abbrev pub popped_by : List (QueueSeatState X) → ℕ
  popped_by seats = sum_by (λ s. length s.popped) seats

  -- All jobs stand in the order in which they went in. The seats pushed each of them once, and popped the first of them, each once;
  -- the others are left, in order
  pub record HasRun (seats : List (QueueSeatState X)) (left : List (JobState X)) : Type 0 where
    pub jobs : List (JobState X)
    pub pushed : All (λ s. AreIn jobs s.pushed) seats
    pub popped : All (λ s. AreIn jobs s.popped) seats
    pub left_are : AreIn jobs (enumerate_from (popped_by seats) left)
    pub many : popped_by seats + length left ≡ length jobs
    pub pushes : IsSpread (λ s. numbers_in s.pushed) seats (range_with_len 0 (length jobs))
    pub pops : IsSpread (λ s. numbers_in s.popped) seats (range_with_len 0 (popped_by seats))
