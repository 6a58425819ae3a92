use Rattle.record_table.specs.Bench.{IsAtWork}
use Rattle.record_table.proofs.tests.threads.read_often.Given as goal

abbrev pub invariant-loop-turn : goal.invariant-loop-turn
invariant-loop-turn g l = IsAtWork l.table l.cache l.worker.session l.worker.seat
