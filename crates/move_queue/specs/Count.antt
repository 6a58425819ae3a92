-- The rule of the count between any two steps, and what each kind of step tells (this project's own).
use Rattle.std.specs.Prelude.{◌≡◌, ℕ, ◌+◌, ◌-◌, ◌*◌, ◌^◌, ◌<◌, ◌≤◌, [], ◌∷◌}
use Rattle.std.specs.List.{sum_by}
use mathlib.Core.Option.{some}
use lib.ListN.{get_elem?}
use Rattle.atomic_table.specs.Table.{State, Me}
use Rattle.atomic_table.specs.Seated.{TableId}
use Rattle.atomic_table.specs.declared.shared.Seat.{Seat}
use Rattle.move_queue.specs.declared.rule.CountView.{CountView}

-- the view of all seats, before they are used
abbrev pub count_opener : ℕ → ℕ → CountView
count_opener quotas seats = record { seats = seats; left = quotas; counted = 0; counted_off = 0; pending = 0; busy = seats }

-- the view of no seat
abbrev pub count_spent : CountView
count_spent = count_opener 0 0

-- the view after a seat with so many pushes was dealt, and that seat's view
abbrev pub count_dealt : ℕ → CountView → CountView
count_dealt quota v = record v { seats = v.seats - 1; left = v.left - quota; busy = v.busy - 1 }

abbrev pub count_newcomer : ℕ → CountView
count_newcomer quota = count_opener quota 1

abbrev pub count_joined : CountView → CountView → CountView
count_joined v w =
    record {
      seats = v.seats + w.seats;
      left = v.left + w.left;
      counted = v.counted + w.counted;
      counted_off = v.counted_off + w.counted_off;
      pending = v.pending + w.pending;
      busy = v.busy + w.busy;
    }

-- the view after one more job was counted in, to be pushed
abbrev pub added : CountView → CountView
added v = record v { left = v.left - 1; counted = v.counted + 1; pending = v.pending + 1 }

-- the view after that was undone
abbrev pub released : CountView → CountView
released v = record v { left = v.left + 1; counted = v.counted - 1; pending = v.pending - 1 }

-- the view after that job was pushed: the seat isn't done any more
abbrev pub committed : CountView → CountView
committed v = record v { pending = v.pending - 1; busy = v.seats }

-- the view after a job that was popped was counted off
abbrev pub taken_off : CountView → CountView
taken_off v = record v { counted_off = v.counted_off + 1 }

-- the view after a look that found no job under way: the seat is done
abbrev pub rested : CountView → CountView
rested v = record v { busy = 0 }

abbrev pub counts_seats : CountView → ℕ
counts_seats v = v.seats

abbrev pub counts_quota : CountView → ℕ
counts_quota v = v.counted + v.left

abbrev pub counted_in : CountView → ℕ
counted_in v = v.counted

abbrev pub off : CountView → ℕ
off v = v.counted_off

abbrev pub pending_of : CountView → ℕ
pending_of v = v.pending

abbrev pub busy_of : CountView → ℕ
busy_of v = v.busy

-- a view of no seat counts nothing
abbrev pub IsSpent : CountView → Type 0
IsSpent v = v.seats ≡ 0 → (v.counted ≡ 0) × (v.counted_off ≡ 0) × (v.pending ≡ 0) × (v.busy ≡ 0)

-- nothing was done with the seats that the view stands for
abbrev pub IsUnusedCount : CountView → Type 0
IsUnusedCount v = v ≡ count_opener v.left v.seats

-- The word is how many jobs were counted in and not off. Where each seat is done, no job is under way but those that are being pushed
pub record IsCounted (quotas seats : ℕ) (s : State (Unit {0}) CountView) : Type 0 where
  pub word : ℕ
  pub wraps : ℕ
  pub words : s.words ≡ word ∷ []
  pub few : quotas < 2 ^ 32
  pub under_way : word + sum_by off s.views ≡ sum_by counted_in s.views + 2 ^ 64 * wraps
  pub all : sum_by counts_seats s.views ≡ seats
  pub within : sum_by counts_quota s.views ≡ quotas
  pub done : sum_by busy_of s.views ≡ 0 → sum_by counted_in s.views ≤ sum_by off s.views + sum_by pending_of s.views
  pub spent : (id : ℕ) (v : CountView) → get_elem? s.views id ≡ some v → IsSpent v

abbrev pub CountMe : Type 0
CountMe = Me (Unit {0}) CountView

-- the step changes the seat's view so
abbrev pub Becomes : (CountView → CountView) → CountMe → CountMe → Type 0
Becomes f me me' = me' ≡ (f me.0, me.1)

-- a look at the word: where it finds 0, the seat is done
pub record Looked (found : ℕ) (me me' : CountMe) : Type 0 where
  pub empty : found ≡ 0 → me' ≡ (rested me.0, me.1)
  pub others : 0 < found → me' ≡ me

-- the seat is one of this table, which has one word
abbrev pub IsOfCount : TableId → TableId → Type 0
IsOfCount seat line = (seat ≡ line) × (line.words ≡ 1)

abbrev pub IsSameMark : {S V : Type 0} → Seat S V → Seat S V → Type 0
IsSameMark s t = (t.table_id ≡ s.table_id) × (t.id ≡ s.id)
