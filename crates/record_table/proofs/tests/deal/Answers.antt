use Rattle.std.proofs.Common.{arith, ap, sym, ◌∙◌}
use Rattle.kmem_model.specs.CacheState.{sizes_of, opening}
use Rattle.record_table.proofs.tests.deal.Goals as goal

pub create-requires-3-clause-made : goal.create-requires-3-clause-made
create-requires-3-clause-made c =
    let made = c.in_ok-objects.ensures in
    record { slabs = 32; chunks = 4; some = omega arith; state = made.state ∙ ap (λ n. opening (sizes_of 32 4 n)) (sym made.home.1) }
