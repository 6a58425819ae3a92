use Rattle.std.proofs.Common.{arith}
use Rattle.move_queue.proofs.CountMoves.{looks}
use Rattle.move_queue.proofs.count.look.Goals as goal

pub load-requires : goal.load-requires
load-requires c =
    let line = c.args.line.now in let mark = c.args.mark.now in
    (c.requires.of.0, omega (arith, c.requires.of.1), looks line.key.quotas line.key.seats line.table_id.slots mark.id mark.me c.requires.some)
