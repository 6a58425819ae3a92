use Rattle.object_cache.proofs.Stocked.{stocked_start}
use Rattle.object_cache.proofs.stock.Stock.create.Goals as goal

pub invariant_of-result : goal.invariant_of-result
invariant_of-result g c =
    stocked_start c.args.slabs c.args.chunks c.in_ok-list.list.slabs c.args.supply c.in_ok-list.ensures.slabs c.requires.source.0 c.requires.source.1
