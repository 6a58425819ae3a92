use Rattle.std.proofs.Common.{ap, ap₂, ◌∙◌}
use Rattle.kmem_model.specs.CacheState.{slab_at, is_out_on}
use Rattle.std.proofs.lemmas.Nat.{div-mul-add, mod-mul-add}
use Rattle.slab_list.specs.Slabs.{is_out_in}
use Rattle.slab_list.proofs.list.SlabList.is_out_at.Goals as goal

pub returns : goal.returns
returns g c =
    let s = c.args.self.now in
    let i = c.args.slab in
    let k = c.args.index in
    c.is_out.ensures
    ∙ (ap (λ b. is_out_in s b) c.number.ensures.number
    ∙ ap₂ (λ slab index. is_out_on (slab_at s.slabs slab) index) (div-mul-add i s.chunks k c.requires.index) (mod-mul-add i s.chunks k c.requires.index))
