use Rattle.std.proofs.Common.{arith}
use Rattle.depot.proofs.Shares.{gathers}
use Rattle.depot.proofs.steps.join.Goals as goal

pub join_seat-requires : goal.join_seat-requires
join_seat-requires g c =
    let line = c.args.line.now in let seat = c.args.seat.now in let other = c.args.other in (
      c.requires.of.0,
      c.requires.other.0,
      c.requires.other.1,
      omega (arith, c.requires.of.1, c.requires.places),
      gathers g.K.Kind.constructed line.key.home line.key.seats seat.id seat.me.0 other.id other.me.0 c.requires.rests.0 c.requires.rests.1 c.requires.some,
    )
