use Rattle.crossbeam_queue.specs.Passes.{view}
use Rattle.move_queue.proofs.RingMoves.{gathers}
use Rattle.move_queue.proofs.ring.join_pass.Goals as goal

pub absorb-requires-clause-rule : goal.absorb-requires-clause-rule
absorb-requires-clause-rule g c = gathers g.K.Kind.constructed c.args.pass.now.id (view c.args.pass.now) c.args.other.id (view c.args.other) c.requires.some
