use Rattle.std.proofs.Common.{arith}
use mathlib.Core.Option.{none}
use Rattle.atomic_table.specs.Table.{step}
use Rattle.kmem_buf.proofs.Steps.{ends_as}
use Rattle.kmem_buf.proofs.board.end.Goals as goal

pub swap-requires : goal.swap-requires
swap-requires c =
    let t = c.requires.table in
    let slots = c.args.top.now.table_id.slots in
    (t.0, omega (arith, t.1), ends_as slots c.args.seat.now.id c.args.seat.now.me 0 (step slots 0 0 0 none) c.requires.stub.1 c.requires.stub.0)
