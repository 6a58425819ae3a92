use Rattle.std.proofs.Common.{refl}
use Rattle.kmem_model.specs.CacheState.{slab_at}
use Rattle.kmem_model.specs.declared.cache_state.Standing.TheVariants.{Source}
use Rattle.slab_list.specs.Slabs.{slab_left}
use Rattle.object_cache.proofs.Stocked.{held-given, used-set}
use Rattle.object_cache.proofs.Freed.{listed_within}
use Rattle.object_cache.proofs.stock.close.Goals as goal

pub returns-else-is_pending-clause-stocked : goal.returns-else-is_pending-clause-stocked
returns-else-is_pending-clause-stocked g c =
    let slabs = c.args.list.now.slabs in
    let i = c.args.slab in
    let left = slab_left Source (slab_at slabs i) in
    let below = listed_within slabs i c.requires.listed in
    rw (c.remove.ensures, c.give.ensures)
    (record {
      held = held-given slabs c.args.supply.now i left below c.requires.held refl;
      used = used-set slabs i left below refl c.requires.used;
    })
