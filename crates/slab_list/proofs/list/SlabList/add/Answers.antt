use Rattle.kmem_model.specs.CacheState.{slab_at}
use Rattle.kmem_model.specs.CacheEnter.{slab_listed}
use Rattle.slab_list.proofs.Indexed.{reenter}
use Rattle.slab_list.proofs.list.SlabList.add.Goals as goal

pub enter-requires-clause-index : goal.enter-requires-clause-index
enter-requires-clause-index g c =
    let s = c.self.inside.table in
    reenter s c.add.new.self c.args.slab (slab_listed (slab_at s.slabs c.args.slab)) c.leave.new.self c.add.ensures.list c.leave.ensures
