use Rattle.std.proofs.Common.{◌≡◌, ◌+◌, ◌≤◌, ◌++◌, List, map, reverse, All, vec_len, vec_capacity}
use Rattle.record_table.specs.Shares.{IsShareAt}
use Rattle.record_table.specs.Sessions.{SessionState}
use Rattle.record_table.proofs.closing.part_sessions.Given as goal

-- the sessions are those that are left, and then those that were taken apart
abbrev pub invariant-loop-session : goal.invariant-loop-session
invariant-loop-session l = record {
  parted : (done : List SessionState) × (l.fn.sessions.items ≡ l.sessions.items ++ done) × (l.passes.items ≡ map (λ s. s.pass) (reverse done))
      × (l.shares.items ≡ map (λ s. s.share) (reverse done));
  of : All (λ s. s.pass.site ≡ l.lock) l.sessions.items;
  at : All (IsShareAt l.lock.home.shares) l.shares.items;
  room : (vec_len l.sessions + vec_len l.passes ≤ vec_capacity l.passes) × (vec_len l.sessions + vec_len l.shares ≤ vec_capacity l.shares);
  same : (vec_capacity l.passes ≡ vec_capacity l.fn.parts.passes) × (vec_capacity l.shares ≡ vec_capacity l.fn.parts.shares);
}

abbrev pub decreases-loop-session : goal.decreases-loop-session
decreases-loop-session l = vec_len l.sessions
