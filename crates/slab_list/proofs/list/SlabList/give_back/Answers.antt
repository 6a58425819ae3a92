use Rattle.kmem_model.specs.CacheState.{slab_at}
use Rattle.kmem_model.specs.CacheEnter.{slab_given_back}
use Rattle.slab_list.proofs.Indexed.{reenter}
use Rattle.slab_list.proofs.list.SlabList.give_back.Goals as goal

pub enter-requires-clause-index : goal.enter-requires-clause-index
enter-requires-clause-index g c =
    let s = c.self.inside.table in
    reenter s c.give_back.new.self c.args.slab (slab_given_back (slab_at s.slabs c.args.slab)) c.leave.new.self c.give_back.ensures c.leave.ensures
