use Rattle.std.proofs.Common.{◌<◌, length, arith, ap, ◌∙◌, refl}
use Rattle.kmem_model.specs.CacheEnter.{unmarked}
use Rattle.slab_list.proofs.Rows.{length-slabs_of, kept_line}
use Rattle.slab_list.proofs.Steps.{line_step, unmark_line}
use Rattle.slab_list.specs.Slabs.{on_slab}
use Rattle.slab_list.proofs.table.SlabTable.unmark.Goals as goal

pub index_mut-line-requires : goal.index_mut-line-requires
index_mut-line-requires g c =
    let f = c.self.inside in
    omega (arith, c.requires, f.lines.ok.0, length-slabs_of f.chunks f.cells.items f.lines.items, ap (λ s. length s.slabs) c.self.view_is)

pub invariant_of-self : goal.invariant_of-self
invariant_of-self g c =
    let f = c.self.inside in
    let i = c.args.slab in
    let x = c.index_mut-line.result.now in
    let read = c.index_mut-line.ensures.value in
    let kept = c.self.invariant in
    let below : i < length f.lines.items = omega (arith, c.requires, length-slabs_of f.chunks f.cells.items f.lines.items, ap (λ s. length s.slabs) c.self.view_is) in
    rw c.unmark.ensures
    (kept_line f.chunks f.cells.items f.lines.items kept i _ below (unmark_line f.chunks f.cells.items f.lines.items kept i x read below))

pub returns : goal.returns
returns g c =
    let f = c.self.inside in
    let i = c.args.slab in
    let x = c.index_mut-line.result.now in
    let read = c.index_mut-line.ensures.value in
    let kept = c.self.invariant in
    let below : i < length f.lines.items = omega (arith, c.requires, length-slabs_of f.chunks f.cells.items f.lines.items, ap (λ s. length s.slabs) c.self.view_is) in
    rw c.unmark.ensures
    (line_step f.chunks f.cells.items f.lines.items kept i x read below _ unmarked refl
    ∙ ap (λ s. on_slab s i unmarked) c.self.view_is)
