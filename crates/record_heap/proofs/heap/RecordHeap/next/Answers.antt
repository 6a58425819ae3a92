use Rattle.std.proofs.Common.{ℕ, ◌+◌, Option, sym, ap, ◌∙◌, subst}
use Rattle.kmem_model.specs.Heap.{IsPaired}
use Rattle.record_heap.specs.View.{HeapView}
use Rattle.kmem_model.specs.RecordStep.{at_step}
use Rattle.record_heap.proofs.Steps.{least_named}
use Rattle.record_heap.proofs.heap.RecordHeap.next.Goals as goal

pub returns : goal.returns
returns c =
    record {
      reply = λ m a stands.
          let valid = stands.valid in
          let s = stands.paired in
          c.at.ensures m a stands
          ∙ ap (λ (x : Option ℕ). (at_step m x).reply)
          (c.name_after.ensures.least ∙ least_named m a c.self.inside.parts.heap (subst (λ (v : HeapView). IsPaired m a v.heap) (sym c.self.view_is) s) (c.args.name.0 + 1));
    }
