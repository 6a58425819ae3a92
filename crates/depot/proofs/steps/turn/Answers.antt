use Rattle.std.proofs.Common.{arith}
use Rattle.depot.proofs.Moves.{turns_it}
use Rattle.depot.proofs.steps.turn.Goals as goal

pub swap-requires : goal.swap-requires
swap-requires g c =
    let line = c.args.line.now in let seat = c.args.seat.now in
    (c.requires.of.0, omega (arith, c.requires.of.1, c.requires.place), turns_it g.K.Kind.constructed line.key.home line.key.seats line.table_id.slots seat.id seat.me c.args.place c.requires.place c.requires.rests.1 c.requires.rests.2)
