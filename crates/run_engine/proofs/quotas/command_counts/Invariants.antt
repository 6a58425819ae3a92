use Rattle.std.proofs.Common.{◌≡◌}
use Rattle.run_engine.specs.Quotas.{command_counts}
use Rattle.run_engine.proofs.quotas.command_counts.Given as goal

-- those of the workers so far
abbrev pub invariant-loop-worker : goal.invariant-loop-worker
invariant-loop-worker l = l.counts.items ≡ command_counts l.worker l.lines
