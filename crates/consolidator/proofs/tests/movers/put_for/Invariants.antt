use Rattle.std.proofs.Common.{◌≡◌, All}
use Rattle.kmem_model.specs.Heap.{blank}
use Rattle.magazine.specs.Ready.{IsReady}
use Rattle.consolidator.proofs.tests.movers.put_for.Given as goal

abbrev pub invariant-loop-i : goal.invariant-loop-i
invariant-loop-i l = All (IsReady (λ o. o ≡ blank) l.home) l.held.items
