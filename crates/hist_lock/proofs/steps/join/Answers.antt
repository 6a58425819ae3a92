use Rattle.std.proofs.Common.{arith}
use Rattle.hist_lock.specs.Rule.{bounds_of}
use Rattle.hist_lock.proofs.Shares.{gathers}
use Rattle.hist_lock.proofs.steps.join.Goals as goal

pub join_seat-requires : goal.join_seat-requires
join_seat-requires g c =
    let told = g.O.Told in let line = c.args.line.now in let seat = c.args.seat.now in let other = c.args.other in (
      c.requires.of.0,
      c.requires.other.0,
      c.requires.other.1,
      omega (arith, c.requires.of.1),
      gathers (bounds_of told.home line.key) told.stands told.home seat.id seat.me.0 other.id other.me.0 c.requires.idle.0 c.requires.idle.1,
    )
