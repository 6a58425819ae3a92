use Rattle.record_table.specs.Bench.{IsAsking}
use Rattle.record_table.proofs.tests.threads.move_often.Given as goal

abbrev pub invariant-loop-scan : goal.invariant-loop-scan
invariant-loop-scan g l = IsAsking l.table l.cache l.agent.mover l.agent.seat l.agent.asked
