use Rattle.std.proofs.Common.{arith}
use Rattle.depot.proofs.Moves.{leaves}
use Rattle.depot.proofs.steps.leave.Goals as goal

pub store-requires : goal.store-requires
store-requires g c =
    let line = c.args.line.now in let seat = c.args.seat.now in let t = c.requires.turns in
    (c.requires.of.0, omega (arith, c.requires.of.1, c.requires.place), leaves g.K.Kind.constructed line.key.home line.key.seats line.table_id.slots seat.id seat.me c.args.place c.args.word t.0 t.1 t.2)
