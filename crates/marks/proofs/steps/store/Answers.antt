use Rattle.std.proofs.Common.{arith, ap}
use Rattle.marks.proofs.Moves.{writes}
use Rattle.marks.proofs.steps.store.Goals as goal

pub store-requires : goal.store-requires
store-requires c =
    let pen = c.args.pen.now in (
      c.requires.of,
      omega (arith, c.requires.in_range, c.requires.pen.1, ap (λ z. z.words) c.requires.of),
      writes c.args.line.now.table_id.slots pen.id pen.me c.args.word c.args.new c.requires.pen.0 c.requires.in_range c.requires.new,
    )
