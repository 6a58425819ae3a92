use Rattle.std.proofs.Common.{◌≡◌, ◌+◌, ◌≤◌, ◌++◌, List, map, reverse, vec_len, vec_capacity}
use Rattle.run_workers.specs.declared.worker.Worker.{Worker}
use Rattle.run_engine.proofs.closing.part_workers.Given as goal

-- the workers are those that are left, and then those that were taken apart
abbrev pub invariant-loop-worker : goal.invariant-loop-worker
invariant-loop-worker l = record {
  parted : (done : List Worker) × (l.fn.workers.items ≡ l.workers.items ++ done)
      × (l.parts.sessions.items ≡ l.fn.parts.sessions.items ++ map (λ w. w.session) (reverse done))
      × (l.parts.seats.items ≡ l.fn.parts.seats.items ++ map (λ w. w.seat) (reverse done));
  rest : (l.parts.movers ≡ l.fn.parts.movers) × (l.parts.places ≡ l.fn.parts.places) × (l.parts.moves ≡ l.fn.parts.moves);
  room : (vec_len l.workers + vec_len l.parts.sessions ≤ vec_capacity l.parts.sessions) × (vec_len l.workers + vec_len l.parts.seats ≤ vec_capacity l.parts.seats);
}

abbrev pub decreases-loop-worker : goal.decreases-loop-worker
decreases-loop-worker l = vec_len l.workers
