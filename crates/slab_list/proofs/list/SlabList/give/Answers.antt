use Rattle.std.proofs.Common.{◌≡◌, ◌/◌, ◌%◌, set, sym, subst, ap₂}
use Rattle.kmem_model.specs.CacheState.{slab_at, no_slab}
use Rattle.kmem_model.specs.CacheEnter.{slab_freed}
use Rattle.kmem_model.specs.declared.cache_state.Standing.TheVariants.{Listed}
use Rattle.slab_list.specs.Bins.{IsIndexOf}
use Rattle.slab_list.proofs.Indexed.{reenter}
use Rattle.slab_list.proofs.list.SlabList.give.Goals as goal

pub enter-requires-clause-index : goal.enter-requires-clause-index
enter-requires-clause-index g c =
    let s = c.self.inside.table in
    let new = c.give-object.new.self in
    let b = c.args.buf.number in
    let x = c.leave.new.self in
    let same : c.number.result / c.chunks.result ≡ b / s.chunks = ap₂ (λ m n. m / n) c.number.ensures c.chunks.ensures.chunks in
    subst (λ i. IsIndexOf new.chunks (set new.slabs i no_slab) new.skip x) (sym same)
    (reenter s new (b / s.chunks) (slab_freed Listed (slab_at s.slabs (b / s.chunks)) (b % s.chunks)) x c.give-object.ensures.list
    (subst (λ i. IsIndexOf s.chunks (set s.slabs i no_slab) s.skip x) same c.leave.ensures))
