use Rattle.std.proofs.Common.{◌<◌, length, arith, sym, ap, ◌∙◌}
use Rattle.kmem_model.specs.CacheState.{SlabState, slab_at}
use Rattle.slab_list.proofs.Rows.{length-slabs_of}
use Rattle.slab_list.proofs.Steps.{slab_read}
use Rattle.slab_list.proofs.table.SlabTable.standing.Goals as goal

pub index-requires : goal.index-requires
index-requires g c =
    let f = c.self.inside in
    omega (arith, c.requires, f.lines.ok.0, length-slabs_of f.chunks f.cells.items f.lines.items, ap (λ s. length s.slabs) c.self.view_is)

pub returns : goal.returns
returns g c =
    let f = c.self.inside in
    let below : c.args.slab < length f.lines.items = omega (arith, c.requires, length-slabs_of f.chunks f.cells.items f.lines.items, ap (λ s. length s.slabs) c.self.view_is) in
    ap (λ (s : SlabState). s.standing) (sym (slab_read f.chunks f.cells.items f.lines.items c.self.invariant c.args.slab c.index.result.now c.index.ensures below))
    ∙ ap (λ s. (slab_at s.slabs c.args.slab).standing) c.self.view_is
