use Rattle.std.proofs.Common.{arith}
use mathlib.Core.Option.{none}
use Rattle.atomic_table.specs.Table.{step}
use Rattle.kmem_buf.specs.Board.{facts_of}
use Rattle.kmem_buf.proofs.Steps.{notes_as}
use Rattle.kmem_buf.proofs.board.note.Goals as goal

pub swap-requires : goal.swap-requires
swap-requires g c =
    let t = c.requires.table in
    let slots = c.args.top.now.table_id.slots in
    (t.0, omega (arith, t.1), notes_as slots c.args.seat.now.id c.args.seat.now.me (facts_of c.args.seat.now.me.0) g.F.Facts.facts 1 (step slots 0 1 0 none) c.requires.stub)
