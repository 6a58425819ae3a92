use Rattle.std.proofs.Common.{[], arith, ap}
use Rattle.kmem_buf.proofs.Steps.{begins, opens_as}
use Rattle.kmem_buf.proofs.stub.Stub.create.Goals as goal

pub of_words-requires : goal.of_words-requires
of_words-requires c = begins []

pub split_seat-seat-requires : goal.split_seat-seat-requires
split_seat-seat-requires c =
    let t = c.in_ok-table.ensures in
    (t.2, omega (arith, t.0), opens_as c.in_ok-table.first.id c.in_ok-table.first.me.0 [] (ap (λ m. m.0) t.4))
