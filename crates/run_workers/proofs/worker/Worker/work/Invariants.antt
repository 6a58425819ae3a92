use Rattle.run_workers.proofs.Working.{IsWorking}
use Rattle.run_workers.proofs.worker.Worker.work.Given as goal

-- the commands so far are done
abbrev pub invariant-loop-index : goal.invariant-loop-index
invariant-loop-index g l = IsWorking l.cache l.fn.self l.index l.self
