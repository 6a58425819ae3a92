use Rattle.kmem_model.specs.CacheState.{slab_at}
use Rattle.kmem_model.specs.CacheEnter.{unmarked}
use Rattle.slab_list.proofs.Indexed.{reenter}
use Rattle.slab_list.proofs.list.SlabList.unmark.Goals as goal

pub enter-requires-clause-index : goal.enter-requires-clause-index
enter-requires-clause-index g c =
    let s = c.self.inside.table in
    reenter s c.unmark.new.self c.args.slab (unmarked (slab_at s.slabs c.args.slab)) c.leave.new.self c.unmark.ensures c.leave.ensures
