use Rattle.marks.proofs.Moves.{deals}
use Rattle.marks.proofs.steps.split.Goals as goal

pub split_seat-requires : goal.split_seat-requires
split_seat-requires c = let pen = c.args.pen.now in (c.requires.of, c.requires.some, deals pen.id pen.me.0)
