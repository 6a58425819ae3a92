use Rattle.std.proofs.Common.{refl}
use Rattle.kmem_model.specs.CacheEnter.{unmarked}
use Rattle.object_cache.proofs.Stocked.{map_stocked}
use Rattle.object_cache.proofs.stock.Stock.forget.Goals as goal

pub invariant_of-self : goal.invariant_of-self
invariant_of-self g c =
    let list = c.self.inside.list in
    let source = c.self.inside.supply in
    rw c.forget.ensures (map_stocked unmarked list.slabs source refl (λ slab. refl) (λ slab. refl) c.self.invariant)
