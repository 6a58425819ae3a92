use Rattle.move_queue.proofs.RingMoves.{begins}
use Rattle.move_queue.proofs.move_queue.MoveQueue.create.Goals as goal

pub ruled-requires-clause-rule : goal.ruled-requires-clause-rule
ruled-requires-clause-rule g c = begins g.K.Kind.constructed
