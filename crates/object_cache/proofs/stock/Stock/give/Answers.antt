use Rattle.std.proofs.Common.{ap, ap₂, ◌∙◌, ◌/◌}
use Rattle.kmem_model.specs.CacheEnter.{slab_freed}
use Rattle.slab_list.specs.Slabs.{on_slab, on_buffer}
use Rattle.object_cache.specs.Stock.{emptied_to, slab_closed}
use Rattle.object_cache.proofs.Freed.{give_closed}
use Rattle.object_cache.proofs.stock.Stock.give.Goals as goal

pub returns-clause-list : goal.returns-clause-list
returns-clause-list g c =
    let list = c.self.inside.list in
    let b = c.args.buf.number in
    let to = emptied_to c.args.is_pending in
    c.close.ensures.list
    ∙ (ap₂ (λ l i. on_slab l i (slab_closed to)) c.give-object.ensures.list (ap₂ (λ m n. m / n) c.number.ensures c.chunks.ensures.chunks)
    ∙ (give_closed list b to c.give-object.ensures.was.0 ∙ ap (λ l. on_buffer l b (slab_freed to)) c.self.view_is))
