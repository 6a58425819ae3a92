use Rattle.std.proofs.Common.{◌≡◌}
use Rattle.kmem_buf.specs.Homes.{cell_homes}
use Rattle.record_heap.proofs.tests.Row.take_any.Given as goal

abbrev pub invariant-loop-number : goal.invariant-loop-number
invariant-loop-number l = cell_homes l.self ≡ cell_homes l.fn.self
