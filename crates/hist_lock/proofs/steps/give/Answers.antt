use Rattle.std.proofs.Common.{arith}
use Rattle.hist_lock.specs.Rule.{bounds_of}
use Rattle.hist_lock.proofs.Moves.{gives_it}
use Rattle.hist_lock.proofs.steps.give.Goals as goal

pub load-length-requires : goal.load-length-requires
load-length-requires g c =
    let told = g.O.Told in let line = c.args.line.now in let seat = c.args.seat.now in
    (c.requires.of.0, omega (arith, c.requires.of.1), gives_it (bounds_of told.home line.key) told.stands told.home line.table_id.slots seat.id seat.me c.requires.whole.0 c.requires.whole.1 c.requires.of.2 c.requires.whole.2 c.requires.whole.3 c.requires.whole.4 c.requires.whole.5 c.requires.whole.6 c.requires.whole.7)
