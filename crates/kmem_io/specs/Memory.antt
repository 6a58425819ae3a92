-- A source and a sink in memory: how many bytes a call takes, which calls fail, and what is left or written.
use Rattle.std.specs.Prelude.{ℕ, ◌+◌, ◌-◌, ◌^◌, ◌==◌, Bool, ◌||◌, ◌&&◌, nat_lt, List, length, min}
use Rattle.std.specs.List.{list_any}

-- what a source in memory will give, and how it gives it: at most `step` bytes a call, failing at the calls numbered in `fail_at`
pub record Reading : Type 0 where
  pub left : List ℕ
  pub step : ℕ
  pub fail_at : List ℕ
  pub calls : ℕ
  pub faults : ℕ

-- what a sink in memory holds, and how it takes more: at most `step` bytes a call and `room` in all, failing at the calls numbered in
-- `fail_at`
pub record Writing : Type 0 where
  pub written : List ℕ
  pub room : ℕ
  pub step : ℕ
  pub fail_at : List ℕ
  pub calls : ℕ
  pub faults : ℕ

-- the number of the next call, counted from 1; the count stands still at 2^64 - 1
abbrev pub next_call : ℕ → ℕ
next_call calls = min (calls + 1) (2 ^ 64 - 1)

-- the call with this number is one of those that fail
abbrev pub fails_at : List ℕ → ℕ → Bool
fails_at fail_at call = list_any (λ k. k == call) fail_at

-- how many bytes the next call gives into a buffer of this length
abbrev pub read_count : Reading → ℕ → ℕ
read_count s size = min s.step (min size (length s.left))

-- the next read fails
abbrev pub read_fails : Reading → Bool
read_fails s = fails_at s.fail_at (next_call s.calls)

-- how many bytes of a piece of this length the next call takes
abbrev pub write_count : Writing → ℕ → ℕ
write_count s size = min s.step (min size (s.room - length s.written))

-- the next write of a piece of this length fails: its call is listed, or it is offered more where all the room is used
abbrev pub write_fails : Writing → ℕ → Bool
write_fails s size = fails_at s.fail_at (next_call s.calls) || (nat_lt 0 size && length s.written == s.room)
