use Rattle.std.proofs.Common.{ap, ◌∙◌}
use Rattle.kmem_model.specs.CacheOrder.{first_partial_free}
use Rattle.object_cache.proofs.Full.{next_partial}
use Rattle.object_cache.proofs.stock.Stock.first_partial_free_on.Goals as goal

pub returns-clause-first : goal.returns-clause-first
returns-clause-first g c =
    let list = c.self.inside.list in
    c.first_free_on.ensures.free
    ∙ (next_partial list c.self.inside.supply c.self.invariant c.law_order.ensures.no_least ∙ ap (λ s. first_partial_free s.chunks s.slabs) c.self.view_is)
