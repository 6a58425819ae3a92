use Rattle.kmem_model.specs.CacheState.{slab_at}
use Rattle.kmem_model.specs.declared.cache_state.Standing.TheVariants.{Source}
use Rattle.slab_list.specs.Slabs.{slab_left}
use Rattle.slab_list.proofs.Indexed.{reenter}
use Rattle.slab_list.proofs.list.SlabList.remove.Goals as goal

pub enter-requires-clause-index : goal.enter-requires-clause-index
enter-requires-clause-index g c =
    let s = c.self.inside.table in
    reenter s c.remove.new.self c.args.slab (slab_left Source (slab_at s.slabs c.args.slab)) c.leave.new.self c.remove.ensures c.leave.ensures
