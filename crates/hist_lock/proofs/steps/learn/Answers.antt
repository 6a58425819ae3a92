use Rattle.std.proofs.Common.{arith}
use Rattle.hist_lock.specs.Rule.{bounds_of}
use Rattle.hist_lock.proofs.Moves.{learns}
use Rattle.hist_lock.proofs.steps.learn.Goals as goal

pub load-requires : goal.load-requires
load-requires g c =
    let told = g.O.Told in let line = c.args.line.now in let seat = c.args.seat.now in
    (c.requires.of.0, omega (arith, c.requires.of.1), learns (bounds_of told.home line.key) told.stands told.home line.table_id.slots seat.id seat.me c.requires.idle)
