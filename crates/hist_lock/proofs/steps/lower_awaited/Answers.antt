use Rattle.std.proofs.Common.{arith, min}
use Rattle.hist_lock.specs.Rule.{bounds_of}
use Rattle.hist_lock.proofs.Moves.{rings}
use Rattle.hist_lock.proofs.steps.lower_awaited.Goals as goal

pub fetch_min-requires : goal.fetch_min-requires
fetch_min-requires g c =
    let told = g.O.Told in let line = c.args.line.now in let seat = c.args.seat.now in
    (c.requires.of.0, omega (arith, c.requires.of.1), rings (bounds_of told.home line.key) told.stands told.home line.table_id.slots seat.id seat.me 19 (λ n. min n c.args.count) (omega arith))
