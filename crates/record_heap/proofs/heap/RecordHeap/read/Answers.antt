use Rattle.std.proofs.Common.{◌≡◌, ℕ, Some, is_some, sym, ap₂, ◌∙◌, subst}
use Rattle.kmem_model.specs.Records.{tag_place}
use Rattle.kmem_model.specs.Heap.{IsPaired}
use Rattle.record_heap.specs.View.{HeapView}
use Rattle.record_heap.specs.Changes.{value_in}
use Rattle.record_heap.proofs.Steps.{of_tag, value_there, read_some}
use Rattle.record_heap.proofs.heap.RecordHeap.read.Goals as goal

pub value-requires : goal.value-requires
value-requires c =
    let f = c.self.inside in
    let h = f.parts.heap in
    let now = c.args.hold.now in
    let it = of_tag h f.present f.records f.leftovers c.self.invariant (tag_place now.worker now.tag) now.address c.meet_hold-b.ensures.held in
    ap₂ (λ (v : HeapView) (i : ℕ). is_some (value_in v.heap i)) c.meet_hold-b.ensures.parts c.meet_hold-b.ensures.address ∙ value_there h now.address it

pub returns-clause-reply : goal.returns-clause-reply
returns-clause-reply c = λ m a stands.
    let valid = stands.valid in
    let s = stands.paired in
    let f = c.self.inside in
    let h = f.parts.heap in
    let now = c.args.hold.now in
    let value : value_in h now.address ≡ Some c.value.result = ap₂ (λ (v : HeapView) (i : ℕ). value_in v.heap i) (sym c.meet_hold-b.ensures.parts) (sym c.meet_hold-b.ensures.address) ∙ c.value.ensures in
    read_some m a h valid (subst (λ (v : HeapView). IsPaired m a v.heap) (sym c.self.view_is) s) (tag_place now.worker now.tag) now.address c.value.result c.meet_hold-b.ensures.held value
