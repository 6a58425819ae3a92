use Rattle.std.proofs.Common.{◌≡◌, Some, sym, ◌∙◌, subst}
use Rattle.kmem_model.specs.Heap.{IsPaired, address_of}
use Rattle.record_heap.specs.View.{HeapView}
use Rattle.record_heap.proofs.Steps.{of_name, value_there, get_some}
use Rattle.record_heap.proofs.heap.RecordHeap.get.Goals as goal

pub value-requires : goal.value-requires
value-requires c =
    let f = c.self.inside in
    let leads : address_of f.parts.heap c.args.name.0 ≡ Some c.in-Some.b = sym c.address.ensures ∙ c.in-Some.is in
    value_there f.parts.heap c.in-Some.b (of_name f.parts.heap f.present f.records f.leftovers c.self.invariant c.args.name.0 c.in-Some.b leads)

pub returns-in-Some : goal.returns-in-Some
returns-in-Some c =
    let f = c.self.inside in
    let leads : address_of f.parts.heap c.args.name.0 ≡ Some c.in-Some.b = sym c.address.ensures ∙ c.in-Some.is in
    record {
      reply = λ m a stands.
          let valid = stands.valid in
          let s = stands.paired in
          get_some m a f.parts.heap valid (subst (λ (v : HeapView). IsPaired m a v.heap) (sym c.self.view_is) s) c.args.name.0 c.in-Some.b c.value.result leads c.value.ensures;
    }
