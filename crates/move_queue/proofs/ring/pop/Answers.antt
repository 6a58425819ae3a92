use Rattle.crossbeam_queue.specs.Passes.{view}
use Rattle.move_queue.proofs.RingMoves.{pops, knows}
use Rattle.move_queue.proofs.ring.pop.Goals as goal

pub pop_as-requires-clause-rule : goal.pop_as-requires-clause-rule
pop_as-requires-clause-rule g c =
    let constructed = g.K.Kind.constructed in let id = c.args.pass.now.id in let v = view c.args.pass.now in (pops constructed id v c.requires.some, knows constructed id v)
