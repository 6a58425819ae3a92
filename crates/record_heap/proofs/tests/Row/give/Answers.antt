use Rattle.std.proofs.Common.{ap, ◌∙◌}
use Rattle.std.proofs.Math.Seq.{map-set_same}
use Rattle.kmem_buf.specs.Buffers.{CellState}
use Rattle.kmem_buf.specs.Homes.{cell_homes}
use Rattle.record_heap.proofs.tests.Row.give.Goals as goal

pub returns : goal.returns
returns c =
    map-set_same (λ (x : CellState). x.home) c.self.inside.cells.items c.number.result c.give-object.new.self c.index_mut-cell.result.now
    (ap (λ (x : CellState). x.home) c.give-object.ensures.cell ∙ ap (λ (x : CellState). x.home) c.index_mut-cell.ensures.value)
    ∙ ap cell_homes c.self.view_is
