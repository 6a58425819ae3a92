use Rattle.std.proofs.Common.{arith}
use Rattle.move_queue.proofs.CountMoves.{takes_off}
use Rattle.move_queue.proofs.count.take_off.Goals as goal

pub fetch_sub-requires : goal.fetch_sub-requires
fetch_sub-requires c =
    let line = c.args.line.now in let mark = c.args.mark.now in
    (c.requires.of.0, omega (arith, c.requires.of.1), takes_off line.key.quotas line.key.seats line.table_id.slots mark.id mark.me c.requires.some)
