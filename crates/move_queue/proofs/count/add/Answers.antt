use Rattle.std.proofs.Common.{arith}
use Rattle.move_queue.proofs.CountMoves.{adds}
use Rattle.move_queue.proofs.count.add.Goals as goal

pub fetch_add-requires : goal.fetch_add-requires
fetch_add-requires c =
    let line = c.args.line.now in let mark = c.args.mark.now in
    (c.requires.of.0, omega (arith, c.requires.of.1), adds line.key.quotas line.key.seats line.table_id.slots mark.id mark.me c.requires.some c.requires.left)
