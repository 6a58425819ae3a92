use Rattle.kmem_cache.proofs.Openings.{fresh_seated}
use Rattle.kmem_cache.proofs.opening.seat_one.Goals as goal

pub invariant_of-result : goal.invariant_of-result
invariant_of-result g c =
    fresh_seated g.K.Kind.constructed c.args.store.now c.args.pass c.in_ok-cpu.cpu c.in_ok-spare.spare c.args.depot c.none.result c.none-2.result
    c.requires.fresh c.in_ok-cpu.ensures c.in_ok-spare.ensures c.requires.depot c.none.ensures c.none-2.ensures
