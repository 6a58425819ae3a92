use Rattle.std.proofs.Common.{◌≡◌, ℕ, Option, Some, sym, ap, ◌∙◌, subst}
use Rattle.kmem_model.specs.Heap.{IsPaired, address_of}
use Rattle.record_heap.specs.View.{HeapView}
use Rattle.kmem_model.specs.RecordStep.{at_step}
use Rattle.record_heap.proofs.Steps.{of_name, value_there, at_some}
use Rattle.record_heap.proofs.heap.RecordHeap.at.Goals as goal

pub value-requires : goal.value-requires
value-requires c =
    let f = c.self.inside in
    let leads : address_of f.parts.heap c.in-Some.name ≡ Some c.in-Some-address.b = sym c.address.ensures ∙ c.in-Some-address.is in
    value_there f.parts.heap c.in-Some-address.b (of_name f.parts.heap f.present f.records f.leftovers c.self.invariant c.in-Some.name c.in-Some-address.b leads)

pub returns : goal.returns
returns c = λ m a stands.
    let valid = stands.valid in
    let s = stands.paired in
    let f = c.self.inside in
    let leads : address_of f.parts.heap c.in-Some.name ≡ Some c.in-Some-address.b = sym c.address.ensures ∙ c.in-Some-address.is in
    at_some m a f.parts.heap valid (subst (λ (v : HeapView). IsPaired m a v.heap) (sym c.self.view_is) s) c.in-Some.name c.in-Some-address.b c.value.result leads c.value.ensures
    ∙ ap (λ (x : Option ℕ). (at_step m x).reply) (sym c.in-Some.is)
