use Rattle.std.proofs.Common.{◌≡◌, ◌+◌, ◌-◌, ◌≤◌, ◌++◌, length, All, vec_len, vec_capacity}
use Rattle.std.specs.List.{enumerate_from}
use Rattle.crossbeam_queue.specs.Passes.{IsPassOf}
use Rattle.object_cache.specs.Moves.{IsJobOf}
use Rattle.move_queue.specs.Seats.{known_by}
use Rattle.move_queue.proofs.close.drain.Given as goal

-- the jobs so far were popped, one after another
abbrev pub invariant-loop-pass : goal.invariant-loop-pass
invariant-loop-pass g l = record {
  pass : IsPassOf l.ring l.pass;
  popped : known_by l.pass
      ≡ record (known_by l.fn.pass) { popped = (known_by l.fn.pass).popped ++ enumerate_from (length (known_by l.fn.pass).popped) l.jobs.items };
  are_jobs : All (IsJobOf g.K.Kind.constructed (known_by l.fn.pass).terms.home) l.jobs.items;
  room : l.count ≤ vec_capacity l.jobs;
  within : length l.jobs.items ≤ l.count;
  whole : length (known_by l.fn.pass).popped + l.count ≡ length (known_by l.fn.pass).pushed;
}

abbrev pub decreases-loop-pass : goal.decreases-loop-pass
decreases-loop-pass g l = l.count - vec_len l.jobs
