use Rattle.crossbeam_queue.specs.Passes.{view}
use Rattle.move_queue.proofs.RingMoves.{knows}
use Rattle.move_queue.proofs.ring.count_jobs.Goals as goal

pub len_as-requires-clause-rule : goal.len_as-requires-clause-rule
len_as-requires-clause-rule g c = knows g.K.Kind.constructed c.args.pass.now.id (view c.args.pass.now)
