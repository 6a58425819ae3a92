use Rattle.std.proofs.Common.{arith, ap}
use Rattle.kmem_buf.specs.Board.{facts_of}
use Rattle.kmem_buf.proofs.Steps.{issues_as}
use Rattle.kmem_buf.proofs.board.cut.Goals as goal

pub split_seat-requires : goal.split_seat-requires
split_seat-requires c =
    let t = c.requires.table in
    (t.0, omega (arith, t.1), issues_as c.args.seat.now.id c.args.seat.now.me.0 (facts_of c.args.seat.now.me.0) (ap (λ m. m.0) c.requires.stub))
