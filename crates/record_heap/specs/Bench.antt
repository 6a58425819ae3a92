-- The heap of the tests.
use Rattle.std.specs.Prelude.{◌≡◌, List, Option, IfSome, length}
use Rattle.kmem_buf.specs.Buffers.{CellState}
use Rattle.kmem_buf.specs.Homes.{cell_homes}
use Rattle.record_heap.specs.View.{HeapView, HoldState, IsHoldAt}

-- the heap has 200,000 names, four buffers and the tags of two workers, its buffers are those of the cells, and the hold is of it
pub record IsSetUp (h : HeapView) (cells : List CellState) (hold : Option HoldState) : Type 0 where
  pub names : length h.heap.names ≡ 200000
  pub tags : length h.heap.tags ≡ 16
  pub objects : length h.heap.objects ≡ 4
  pub celled : cell_homes cells ≡ h.home.cells
  pub held : IfSome hold (IsHoldAt h.holds)
