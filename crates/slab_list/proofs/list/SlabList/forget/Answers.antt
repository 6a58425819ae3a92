use Rattle.std.proofs.Common.{arith, ap₂, ◌∙◌}
use Rattle.slab_list.proofs.Indexed.{forget_all}
use Rattle.slab_list.proofs.list.SlabList.forget.Goals as goal

pub returns : goal.returns
returns g c =
    let new = c.loop-slab.self in
    let old = c.args.self.now in
    let k = c.loop-slab.invariant in
    ap₂ (λ chunks cells. record { chunks = chunks; slabs = new.slabs; cells = cells; skip = new.skip }) k.chunks k.cells
    ∙ ap₂ (λ skip slabs. record { chunks = old.chunks; slabs = slabs; cells = old.cells; skip = skip }) k.skip
    (forget_all old.slabs new.slabs k.size k.same (λ i. c.in_default.ensures i (omega arith)))
