use Rattle.std.proofs.Common.{◌≤◌}
use Rattle.record_table.specs.Bench.{IsAtWork}
use Rattle.record_table.proofs.tests.threads.work.Given as goal

abbrev pub invariant-loop-step : goal.invariant-loop-step
invariant-loop-step g l = IsAtWork l.table l.cache l.worker.session l.worker.seat × (l.first ≤ 40)
