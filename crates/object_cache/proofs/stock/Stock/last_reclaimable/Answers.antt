use Rattle.std.proofs.Common.{false, get_or, ap, ◌∙◌}
use Rattle.kmem_model.specs.CacheOrder.{last_reclaimable}
use Rattle.slab_list.specs.Slabs.{ListState, mode_of}
use Rattle.object_cache.proofs.stock.Stock.last_reclaimable.Goals as goal

pub returns-clause-choice : goal.returns-clause-choice
returns-clause-choice g c =
    c.last_reclaimable.ensures.choice
    ∙ ap (λ (l : ListState). last_reclaimable l.chunks c.args.numer (mode_of c.args.desperate) (λ b. get_or l.skip b false) l.slabs) c.self.view_is
