use Rattle.std.proofs.Common.{arith}
use Rattle.hist_lock.specs.Rule.{bounds_of}
use Rattle.hist_lock.proofs.Moves.{raises}
use Rattle.hist_lock.proofs.steps.raise.Goals as goal

pub fetch_add-length-requires : goal.fetch_add-length-requires
fetch_add-length-requires g c =
    let told = g.O.Told in let line = c.args.line.now in let seat = c.args.seat.now in
    (c.requires.of.0, omega (arith, c.requires.of.1), raises (bounds_of told.home line.key) told.stands told.home line.table_id.slots seat.id seat.me c.requires.holds.0 c.requires.holds.1 c.requires.holds.2 c.requires.holds.3 c.requires.left)
