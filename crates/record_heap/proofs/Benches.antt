-- The heap of the tests stays set up.
use Rattle.std.proofs.Common.{◌≡◌, List, Option, IfSome, sym, ap, ◌∙◌, subst}
use Rattle.atomic_table.specs.Seated.{TableId}
use Rattle.kmem_buf.specs.Buffers.{CellState}
use Rattle.kmem_buf.specs.Homes.{Homes, cell_homes}
use Rattle.record_heap.specs.View.{HeapView, HoldState, IsFrame, IsHoldAt}
use Rattle.record_heap.specs.Bench.{IsSetUp}

pub renewed : (h h' : HeapView) (cells cells' : List CellState) (hold hold' : Option HoldState) → IsSetUp h cells hold → IsFrame h h' → cell_homes cells' ≡ cell_homes cells → IfSome hold' (IsHoldAt h'.holds) →
    IsSetUp h' cells' hold'
renewed h h' cells cells' hold hold' kept frame same held =
    record {
      names = frame.names ∙ kept.names;
      tags = frame.tags ∙ kept.tags;
      objects = frame.objects ∙ kept.objects;
      celled = same ∙ (kept.celled ∙ sym (ap (λ (homes : Homes). homes.cells) frame.home));
      held = held;
    }

pub still : (h h' : HeapView) (cells cells' : List CellState) (hold : Option HoldState) → IsSetUp h cells hold → IsFrame h h' → cell_homes cells' ≡ cell_homes cells → IsSetUp h' cells' hold
still h h' cells cells' hold kept frame same =
    renewed h h' cells cells' hold hold kept frame same (subst (λ (stubs : List TableId). IfSome hold (IsHoldAt stubs)) (sym frame.holds) kept.held)
