use Rattle.std.proofs.Common.{◌∙◌}
use Rattle.kmem_model.specs.One.{buffers_of}
use Rattle.kmem_model.specs.OneRun.{without_leftovers}
use Rattle.run_one.proofs.bench.Bench.finish.Goals as goal

pub returns-clause-ended : goal.returns-clause-ended
returns-clause-ended c = λ run at.
    c.settle.ensures.settled (record run { state = without_leftovers (buffers_of run.state.cache) run.state })
    (record { stands = c.free_leftovers.ensures.freed run.state at.stands; settled = c.free_leftovers.ensures.settled ∙ at.settled })
