use Rattle.std.proofs.Common.{arith}
use Rattle.move_queue.proofs.CountMoves.{gathers}
use Rattle.move_queue.proofs.count.join_mark.Goals as goal

pub join_seat-requires : goal.join_seat-requires
join_seat-requires c =
    let line = c.args.line.now in let mark = c.args.mark.now in let other = c.args.other in
    (c.requires.of.0, c.requires.other.0, c.requires.other.1, omega (arith, c.requires.of.1), gathers line.key.quotas line.key.seats mark.id mark.me.0 other.id other.me.0 c.requires.some)
