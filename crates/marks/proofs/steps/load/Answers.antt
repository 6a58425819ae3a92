use Rattle.marks.proofs.Moves.{finds}
use Rattle.marks.proofs.steps.load.Goals as goal

pub load-requires : goal.load-requires
load-requires c =
    let seat = c.args.seat.now in (c.requires.of, c.requires.in_range, finds c.args.line.now.table_id.slots seat.id seat.me c.args.word)
