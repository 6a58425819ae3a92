use Rattle.std.proofs.Common.{◌≡◌, ◌+◌, ◌≤◌, ◌++◌, List, map, reverse, All, vec_len, vec_capacity}
use Rattle.hist_lock.specs.Passes.{PassState}
use Rattle.kmem_model.specs.declared.record_entry.RecordEntry.{RecordEntry}
use Rattle.record_table.specs.Tables.{TableHome}
use Rattle.record_table.specs.Sessions.{IsFreshSession}
use Rattle.record_table.specs.Openings.{IsFreshPass, IsFreshShare}
use Rattle.record_table.proofs.opening.all_sessions.Given as goal

-- the passes are those that are left, and then those that have a session
abbrev pub invariant-loop-pass : goal.invariant-loop-pass
invariant-loop-pass l = record {
  fresh : All (IsFreshPass l.lock l.lock.home.workers) l.passes.items;
  shares : All (IsFreshShare l.lock.home.shares) l.shares.items;
  count : vec_len l.shares ≡ vec_len l.passes;
  dealt : (done : List (PassState RecordEntry TableHome)) × (l.fn.passes.items ≡ l.passes.items ++ done) × (map (λ s. s.pass) l.sessions.items ≡ reverse done);
  new : All IsFreshSession l.sessions.items;
  room : vec_len l.passes + vec_len l.sessions ≤ vec_capacity l.sessions;
}

abbrev pub decreases-loop-pass : goal.decreases-loop-pass
decreases-loop-pass l = vec_len l.passes
