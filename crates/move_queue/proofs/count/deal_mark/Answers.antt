use Rattle.std.proofs.Common.{arith}
use Rattle.move_queue.proofs.CountMoves.{deals}
use Rattle.move_queue.proofs.count.deal_mark.Goals as goal

pub split_seat-requires : goal.split_seat-requires
split_seat-requires g c =
    let line = c.args.line.now in let mark = c.args.dealer.now in
    (c.requires.of.0, omega (arith, c.requires.of.1), deals line.key.quotas line.key.seats mark.id g.B.Quota.quota mark.me.0 c.requires.unused c.requires.some (omega (arith, c.requires.quota, c.requires.enough)))
