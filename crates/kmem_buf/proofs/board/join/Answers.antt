use Rattle.std.proofs.Common.{arith, ap}
use Rattle.kmem_buf.specs.Board.{facts_of}
use Rattle.kmem_buf.proofs.Steps.{joins_as}
use Rattle.kmem_buf.proofs.board.join.Goals as goal

pub join_seat-requires : goal.join_seat-requires
join_seat-requires c =
    let t = c.requires.table in
    let w = c.args.slip.me.0 in
    (t.0, t.2, ap (λ m. m.1) c.requires.slip, omega (arith, t.1), joins_as c.args.seat.now.id c.args.seat.now.me.0 c.args.slip.id w (facts_of w) c.requires.stub (ap (λ m. m.0) c.requires.slip))
