use Rattle.std.proofs.Common.{◌<◌, length, arith, sym, ap, ◌∙◌}
use Rattle.std.proofs.lemmas.Option.{slice_get_within}
use Rattle.std.proofs.lemmas.List.{length-map}
use Rattle.kmem_buf.specs.Buffers.{CellState}
use Rattle.slab_list.proofs.Rows.{out_by_cell}
use Rattle.slab_list.proofs.table.SlabTable.meet.Goals as goal

pub returns-clause-out : goal.returns-clause-out
returns-clause-out g c =
    let f = c.self.inside in
    let b = c.number.result in
    let kept = c.self.invariant in
    let cell = c.index_mut-cell.result.now in
    let below : b < length f.cells.items =
    omega (arith, slice_get_within c.args.self.now.cells c.args.buf.now.number c.args.buf.now.home c.requires, c.number.ensures, length-map f.cells.items (λ (e : CellState). e.home), ap (λ s. length s.cells) c.self.view_is) in
    rw (← c.number.ensures, ← c.self.view_is)
    (out_by_cell f.chunks f.cells.items f.lines.items kept b cell below ∙ (ap (λ (e : CellState). e.out) (sym c.index_mut-cell.ensures.value) ∙ ap (λ (e : CellState). e.out) c.meet.ensures.out))
