use Rattle.std.proofs.Common.{◌≡◌, ◌/◌, ◌%◌, set, sym, subst}
use Rattle.kmem_model.specs.CacheState.{slab_at, no_slab}
use Rattle.kmem_model.specs.CacheEnter.{slab_never}
use Rattle.slab_list.specs.Bins.{IsIndexOf}
use Rattle.slab_list.proofs.Indexed.{reenter}
use Rattle.slab_list.proofs.list.SlabList.never.Goals as goal

pub enter-requires-clause-index : goal.enter-requires-clause-index
enter-requires-clause-index g c =
    let s = c.self.inside.table in
    let new = c.never.new.self in
    let b = c.args.number in
    let x = c.leave.new.self in
    let same : c.chunks.result ≡ s.chunks = c.chunks.ensures.chunks in
    subst (λ n. IsIndexOf new.chunks (set new.slabs (b / n) no_slab) new.skip x) (sym same)
    (reenter s new (b / s.chunks) (slab_never (slab_at s.slabs (b / s.chunks)) (b % s.chunks)) x c.never.ensures
    (subst (λ n. IsIndexOf s.chunks (set s.slabs (b / n) no_slab) s.skip x) same c.leave.ensures))
