use Rattle.crossbeam_queue.specs.Passes.{view, ruled_capacity}
use Rattle.move_queue.proofs.RingMoves.{pushes, numbered}
use Rattle.move_queue.proofs.ring.push.Goals as goal

pub push_as-requires-clause-rule : goal.push_as-requires-clause-rule
push_as-requires-clause-rule g c =
    let constructed = g.K.Kind.constructed in let id = c.args.pass.now.id in let v = view c.args.pass.now in
    (pushes constructed (ruled_capacity c.args.ring.now) id v c.args.job c.requires.some c.requires.left c.requires.job, numbered constructed id v c.requires.some)
