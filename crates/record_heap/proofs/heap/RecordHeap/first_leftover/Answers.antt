use Rattle.std.proofs.Common.{ap, sym, ◌∙◌}
use Rattle.kmem_model.specs.Heap.{least_left_in}
use Rattle.record_heap.specs.View.{HeapView}
use Rattle.record_heap.proofs.Puts.{no_leftover}
use Rattle.record_heap.proofs.heap.RecordHeap.first_leftover.Goals as goal

pub returns-then-self-eq0-clause-least : goal.returns-then-self-eq0-clause-least
returns-then-self-eq0-clause-least c =
    let f = c.self.inside in
    sym (ap (λ (v : HeapView). least_left_in v.heap) (sym c.self.view_is) ∙ no_leftover f.parts.heap f.present f.records f.leftovers c.self.invariant c.if-self-eq0.true)
