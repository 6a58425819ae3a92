use Rattle.std.proofs.Common.{◌≡◌, ◌<◌, ◌/◌, length, set, arith, ap, sym, subst}
use Rattle.std.proofs.Math.Nat.{div-lt_iff_lt-mul}
use Rattle.kmem_model.specs.CacheState.{no_slab}
use Rattle.slab_list.specs.Slabs.{ListState}
use Rattle.slab_list.specs.Bins.{IsIndexOf}
use Rattle.slab_list.proofs.Indexed.{reskip}
use Rattle.slab_list.proofs.list.SlabList.leave_out.Goals as goal

pub leave_out-requires : goal.leave_out-requires
leave_out-requires g c =
    omega (arith, c.requires, c.chunks.ensures.whole.cells, c.self.invariant.as_many, ap (λ (s : ListState). length s.cells) c.self.view_is)

pub leave-requires-clause-slab : goal.leave-requires-clause-slab
leave-requires-clause-slab g c =
    let s = c.self.inside.table in
    let b = c.args.number in
    let whole = c.chunks.ensures.whole in
    let below : b / s.chunks < length s.slabs = (div-lt_iff_lt-mul {k = s.chunks} {x = b} {y = length s.slabs} whole.some).1
    (omega (arith, c.requires, whole.cells, ap (λ (t : ListState). length t.cells) c.self.view_is)) in
    subst (λ n. b / n < length s.slabs) (sym c.chunks.ensures.chunks) below

pub enter-requires-clause-index : goal.enter-requires-clause-index
enter-requires-clause-index g c =
    let s = c.self.inside.table in
    let new = c.leave_out.new.self in
    let b = c.args.number in
    let x = c.leave.new.self in
    let whole = c.chunks.ensures.whole in
    let below : b / s.chunks < length s.slabs = (div-lt_iff_lt-mul {k = s.chunks} {x = b} {y = length s.slabs} whole.some).1
    (omega (arith, c.requires, whole.cells, ap (λ (t : ListState). length t.cells) c.self.view_is)) in
    let same : c.chunks.result ≡ s.chunks = c.chunks.ensures.chunks in
    subst (λ n. IsIndexOf new.chunks (set new.slabs (b / n) no_slab) new.skip x) (sym same)
    (reskip s new b c.args.left_out x whole c.leave_out.ensures below
    (subst (λ n. IsIndexOf s.chunks (set s.slabs (b / n) no_slab) s.skip x) same c.leave.ensures))

pub enter-requires-clause-slab : goal.enter-requires-clause-slab
enter-requires-clause-slab g c =
    let s = c.self.inside.table in
    let b = c.args.number in
    let whole = c.chunks.ensures.whole in
    let below : b / s.chunks < length s.slabs = (div-lt_iff_lt-mul {k = s.chunks} {x = b} {y = length s.slabs} whole.some).1
    (omega (arith, c.requires, whole.cells, ap (λ (t : ListState). length t.cells) c.self.view_is)) in
    rw c.leave_out.ensures (subst (λ n. b / n < length s.slabs) (sym c.chunks.ensures.chunks) below)
