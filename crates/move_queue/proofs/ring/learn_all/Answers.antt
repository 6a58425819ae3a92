use Rattle.crossbeam_queue.specs.Passes.{view}
use Rattle.move_queue.proofs.RingMoves.{knows}
use Rattle.move_queue.proofs.ring.learn_all.Goals as goal

pub learn_as-requires-clause-rule : goal.learn_as-requires-clause-rule
learn_as-requires-clause-rule g c = knows g.K.Kind.constructed c.args.pass.now.id (view c.args.pass.now)
