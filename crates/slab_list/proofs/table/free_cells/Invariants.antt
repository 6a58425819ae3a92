use Rattle.std.proofs.Common.{◌≡◌, length}
use Rattle.slab_list.specs.Lines.{AreCellsFree}
use Rattle.slab_list.proofs.table.free_cells.Given as goal

abbrev pub invariant-loop-number : goal.invariant-loop-number
invariant-loop-number l = (length l.cells.items ≡ l.number) × AreCellsFree l.cells.items
