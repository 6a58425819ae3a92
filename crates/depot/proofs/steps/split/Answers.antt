use Rattle.std.proofs.Common.{arith}
use Rattle.depot.proofs.Shares.{deals}
use Rattle.depot.proofs.steps.split.Goals as goal

pub split_seat-requires : goal.split_seat-requires
split_seat-requires g c =
    let line = c.args.line.now in let seat = c.args.dealer.now in
    (c.requires.of.0, omega (arith, c.requires.of.1, c.requires.places), deals g.K.Kind.constructed line.key.home line.key.seats seat.id seat.me.0 c.requires.unused c.requires.some)
