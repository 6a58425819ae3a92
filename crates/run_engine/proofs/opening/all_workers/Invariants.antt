use Rattle.std.proofs.Common.{◌≡◌, ◌+◌, ◌≤◌, ◌++◌, length, map, reverse, All, vec_len, vec_capacity}
use Rattle.std.specs.List.{range_with_len}
use Rattle.run_engine.specs.Quotas.{command_counts}
use Rattle.run_engine.specs.Opened.{pass_of, IsStarting}
use Rattle.run_engine.specs.Openings.{AreDealt}
use Rattle.run_engine.proofs.opening.all_workers.Given as goal

-- the workers behind those that are left are made
abbrev pub invariant-loop-count : goal.invariant-loop-count
invariant-loop-count l = record {
  dealt : AreDealt l.shared l.counts.items l.sessions.items l.seats.items;
  counts : l.counts.items ≡ command_counts (length l.counts.items) l.lines;
  workers : All (IsStarting l.shared l.lines) l.workers.items;
  passes : range_with_len 0 (length l.counts.items) ++ map pass_of (reverse l.workers.items) ≡ range_with_len 0 (length l.fn.counts.items);
  room : vec_len l.counts + vec_len l.workers ≤ vec_capacity l.workers;
  many : vec_len l.counts ≤ 16;
  many_sessions : vec_len l.sessions ≡ vec_len l.counts;
  many_seats : vec_len l.seats ≡ vec_len l.counts;
}

abbrev pub decreases-loop-count : goal.decreases-loop-count
decreases-loop-count l = vec_len l.counts
