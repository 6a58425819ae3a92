use Rattle.std.proofs.Common.{◌<◌, length, arith, sym, ap, ◌∙◌}
use Rattle.std.proofs.lemmas.List.{length-map}
use Rattle.kmem_buf.specs.Buffers.{CellState}
use Rattle.slab_list.proofs.Rows.{out_by_cell}
use Rattle.slab_list.specs.Slabs.{is_out_in}
use Rattle.slab_list.proofs.table.SlabTable.is_out.Goals as goal

pub returns : goal.returns
returns g c =
    let f = c.self.inside in
    let cell = c.index-cell.result.now in
    let below : c.args.number < length f.cells.items = omega (arith, c.requires, length-map f.cells.items (λ (e : CellState). e.home), ap (λ s. length s.cells) c.self.view_is) in
    c.is_out.ensures
    ∙ (ap (λ (e : CellState). e.out) c.index-cell.ensures
    ∙ (sym (out_by_cell f.chunks f.cells.items f.lines.items c.self.invariant c.args.number cell below)
    ∙ ap (λ s. is_out_in s c.args.number) c.self.view_is))
