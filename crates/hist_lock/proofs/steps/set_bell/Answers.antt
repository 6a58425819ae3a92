use Rattle.std.proofs.Common.{arith}
use Rattle.hist_lock.specs.Rule.{bounds_of}
use Rattle.hist_lock.proofs.Moves.{rings}
use Rattle.hist_lock.proofs.steps.set_bell.Goals as goal

pub store-requires : goal.store-requires
store-requires g c =
    let told = g.O.Told in let line = c.args.line.now in let seat = c.args.seat.now in
    (c.requires.of.0, omega (arith, c.requires.of.1, c.requires.bell.1), rings (bounds_of told.home line.key) told.stands told.home line.table_id.slots seat.id seat.me c.args.bell (λ _. c.args.to) c.requires.bell.0)
