use Rattle.std.proofs.Common.{arith}
use Rattle.move_queue.proofs.CountMoves.{commits}
use Rattle.move_queue.proofs.count.commit.Goals as goal

pub load-requires : goal.load-requires
load-requires c =
    let line = c.args.line.now in let mark = c.args.mark.now in
    (c.requires.of.0, omega (arith, c.requires.of.1), commits line.key.quotas line.key.seats line.table_id.slots mark.id mark.me c.requires.one)
