use Rattle.std.proofs.Common.{◌*◌, Bool, false, List, length, ap, ◌∙◌, sym, subst}
use Rattle.std.proofs.lemmas.List.{length-replicate}
use Rattle.slab_list.specs.Bins.{IsIndexOf}
use Rattle.slab_list.proofs.Indexed.{index_empty}
use Rattle.slab_list.proofs.list.SlabList.create.Goals as goal

pub invariant_of-result : goal.invariant_of-result
invariant_of-result g c =
    let x = c.in_ok-create-2.field-0 in
    let e = c.in_ok-create.ensures in
    let skip = c.in_ok-create.field-0.skip in
    subst (λ n. IsIndexOf n c.in_ok-create.field-0.slabs skip x) (sym e.chunks)
    (subst (λ slabs. IsIndexOf c.args.chunks slabs skip x) (sym e.slabs)
    (index_empty c.args.slabs c.args.chunks skip x c.requires.slabs.1 c.requires.chunks.1
    (ap (λ (bs : List Bool). length bs) e.skip ∙ length-replicate (c.args.slabs * c.args.chunks) false) c.in_ok-create-2.ensures))
