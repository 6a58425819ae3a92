-- A seat between its calls, and what all seats know together (this project's own).
use Rattle.std.specs.Prelude.{◌≡◌, ◌==◌, ℕ, ◌+◌, ◌^◌, ◌<◌, ◌≤◌, true, List, length, All}
use Rattle.std.specs.List.{sum_by, enumerate_from, range_with_len}
use Rattle.atomic_table.specs.Seated.{TableId}
use Rattle.crossbeam_queue.specs.Passes.{Pass}
use Rattle.object_cache.specs.Moves.{JobState, IsJobOf}
use Rattle.move_queue.specs.declared.rule.Terms.{Terms}
use Rattle.move_queue.specs.declared.rule.View.{View}
use Rattle.move_queue.specs.declared.rule.CountView.{CountView}
use Rattle.move_queue.specs.Rule.{unused}
use Rattle.move_queue.specs.Count.{count_opener}
use Rattle.move_queue.specs.Queue.{QueueSeatState, numbers_in, AreIn, pushed_by, popped_by}

-- the count has one word, there is a seat, and there is room for as many jobs as the ring can hold
pub record IsQueue (count : TableId) (terms : Terms) (capacity room : ℕ) : Type 0 where
  pub one_word : count.words ≡ 1
  pub no_slot : count.slots ≡ 0
  pub seats : 0 < terms.seats
  pub room_is : room ≡ capacity

-- what the pass knows
abbrev pub known_by : {T V : Type 0} → Pass T V → V
known_by pass = pass.me.0.client

module _ {X : Type 0} where
  -- a seat, as contracts see it
  abbrev pub seat_state : TableId → TableId → View X → CountView → ℕ → QueueSeatState X
  seat_state ring count v c refused =
      record {
        ring = ring;
        count = count;
        terms = v.terms;
        left = v.left;
        refused = refused;
        pushed = v.pushed;
        popped = v.popped;
        done = c.busy == 0;
      }

  -- a seat with so many pushes, before it is used
  abbrev pub fresh_seat : TableId → TableId → Terms → ℕ → QueueSeatState X
  fresh_seat ring count terms quota = seat_state ring count (unused terms 1 quota) (count_opener quota 1) 0

  -- the first seat stands for the seats that it has yet to deal, and they were not used
  abbrev pub IsDealer : View X → CountView → Type 0
  IsDealer v c = (v ≡ unused v.terms c.seats c.left) × (c ≡ count_opener c.left c.seats)

  -- what a seat knows of the ring and what it knows of the count agree, and it pushes no job
  pub record IsSeated (v : View X) (c : CountView) : Type 0 where
    pub one : v.seats ≡ 1
    pub counts_one : c.seats ≡ 1
    pub left : c.left ≡ v.left
    pub counted : c.counted ≡ length v.pushed
    pub counted_off : c.counted_off ≡ length v.popped
    pub pending : c.pending ≡ 0
    pub busy : c.busy ≤ 1
    pub few : length v.popped ≤ v.terms.quotas
    pub within : length v.pushed + v.left < 2 ^ 32

  -- the seat is of these tables, and was told these terms
  pub record IsSeatOf (ring count : TableId) (terms : Terms) (s : QueueSeatState X) : Type 0 where
    pub ring_is : s.ring ≡ ring
    pub count_is : s.count ≡ count
    pub terms_are : s.terms ≡ terms

  -- what these seats know, in one view of the ring and one of the count
  pub record HasGathered (terms : Terms) (seats : List (QueueSeatState X)) (v : View X) (c : CountView) : Type 0 where
    pub terms_are : v.terms ≡ terms
    pub some : 0 < length seats
    pub many : v.seats ≡ length seats
    pub counts_many : c.seats ≡ length seats
    pub counted : c.counted ≡ length v.pushed
    pub counted_off : c.counted_off ≡ length v.popped
    pub pending : c.pending ≡ 0
    pub popped_many : length v.popped ≡ popped_by seats
    pub pushed_many : length v.pushed ≡ pushed_by seats
    pub pushed : (jobs : List (JobState X)) → AreIn jobs v.pushed → All (λ s. AreIn jobs s.pushed) seats
    pub popped : (jobs : List (JobState X)) → AreIn jobs v.popped → All (λ s. AreIn jobs s.popped) seats
    pub pushes : (weight : ℕ → ℕ) → sum_by weight (numbers_in v.pushed) ≡ sum_by (λ s. sum_by weight (numbers_in s.pushed)) seats
    pub pops : (weight : ℕ → ℕ) → sum_by weight (numbers_in v.popped) ≡ sum_by (λ s. sum_by weight (numbers_in s.popped)) seats
    pub done : All (λ s. s.done ≡ true) seats → c.busy ≡ 0

  -- a seat that stands for all seats popped these jobs, and none is left
  pub record HasDrained (constructed : X → Type 0) (v : View X) (left : List (JobState X)) : Type 0 where
    pub jobs : List (JobState X)
    pub pushed : AreIn jobs v.pushed
    pub popped : AreIn jobs v.popped
    pub left_are : AreIn jobs (enumerate_from (length v.popped) left)
    pub many : length v.popped + length left ≡ length jobs
    pub as_many : length v.pushed ≡ length jobs
    pub pushes : (weight : ℕ → ℕ) → sum_by weight (numbers_in v.pushed) ≡ sum_by weight (range_with_len 0 (length jobs))
    pub pops : (weight : ℕ → ℕ) → sum_by weight (numbers_in v.popped) ≡ sum_by weight (range_with_len 0 (length v.popped))
    pub are_jobs : All (IsJobOf constructed v.terms.home) left
