use Rattle.std.proofs.Common.{◌≡◌, length}
use Rattle.record_heap.proofs.tests.row_of_four.Given as goal

abbrev pub invariant-loop-number : goal.invariant-loop-number
invariant-loop-number l = length l.cells.items ≡ l.number
