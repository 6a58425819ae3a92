use Rattle.std.proofs.Common.{◌≡◌, ◌+◌, length, ℕ}
use Rattle.std.specs.Prelude.{All}
use Rattle.run_check.specs.Cursor.{lines_in}
use Rattle.run_check.specs.Kept.{kept_map, IsKept}
use Rattle.run_check.specs.Shares.{left_in, IsShareWithin}
use Rattle.run_check.proofs.Replaying.{IsReplayedTo}
use Rattle.run_check.proofs.history.replay.Given as goal

-- the lines so far are replayed
abbrev pub invariant-loop : goal.invariant-loop
invariant-loop l = record {
  kept : IsKept l.map;
  within : All (IsShareWithin (length l.map.names.items)) l.shares.items;
  shares : length l.shares.items ≡ length l.initial.shares.items;
  taken : l.lines.taken ≡ l.initial.lines.taken + l.counter;
  replayed : IsReplayedTo (length l.initial.map.names.items) (length l.initial.shares.items) (left_in l.initial.shares.items) (lines_in l.initial.lines.rest.now) (kept_map l.map) (left_in l.shares.items) (lines_in l.lines.rest.now) l.counter;
}
