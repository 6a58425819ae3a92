use Rattle.std.proofs.Common.{◌≡◌, ℕ, Some, is_some, sym, ap, ap₂, ◌∙◌, subst}
use Rattle.kmem_model.specs.Records.{held_at, tag_place}
use Rattle.kmem_model.specs.Heap.{HeapState, IsPaired, places_of}
use Rattle.record_heap.specs.View.{HeapView}
use Rattle.record_heap.specs.Kept.{IsHeapKept}
use Rattle.kmem_model.specs.RecordStep.{write_step}
use Rattle.record_heap.specs.Objects.{with_value}
use Rattle.record_heap.specs.Changes.{value_in, valued}
use Rattle.record_heap.proofs.Steps.{of_tag, value_there, valued_kept, places_changed}
use Rattle.record_heap.proofs.Holds.{was_reply, write_stands}
use Rattle.record_heap.proofs.heap.RecordHeap.write.Goals as goal

pub value-old-requires : goal.value-old-requires
value-old-requires c =
    let f = c.self.inside in
    let h = f.parts.heap in
    let now = c.args.hold.now in
    let it = of_tag h f.present f.records f.leftovers c.self.invariant (tag_place now.worker now.tag) now.address c.meet_hold-b.ensures.held in
    ap₂ (λ (v : HeapView) (i : ℕ). is_some (value_in v.heap i)) c.meet_hold-b.ensures.parts c.meet_hold-b.ensures.address ∙ value_there h now.address it

pub invariant_of-self : goal.invariant_of-self
invariant_of-self c =
    let f = c.self.inside in
    let h = f.parts.heap in
    let now = c.args.hold.now in
    let it = of_tag h f.present f.records f.leftovers c.self.invariant (tag_place now.worker now.tag) now.address c.meet_hold-b.ensures.held in
    let is : c.set_value.new.self.heap ≡ valued h now.address c.args.value =
    ap (λ (v : HeapView). v.heap) c.set_value.ensures ∙ ap₂ (λ (v : HeapView) (i : ℕ). valued v.heap i c.args.value) c.meet_hold-b.ensures.parts c.meet_hold-b.ensures.address in
    subst (λ (k : HeapState). IsHeapKept k f.present f.records f.leftovers) (sym is) (valued_kept h f.present f.records f.leftovers c.self.invariant now.address it c.args.value)

pub returns-clause-reply : goal.returns-clause-reply
returns-clause-reply c = λ m a stands.
    let valid = stands.valid in
    let s = stands.paired in
    let f = c.self.inside in
    let h = f.parts.heap in
    let now = c.args.hold.now in
    let place = tag_place now.worker now.tag in
    let it = of_tag h f.present f.records f.leftovers c.self.invariant place now.address c.meet_hold-b.ensures.held in
    let value : value_in h now.address ≡ Some c.value-old.result = ap₂ (λ (v : HeapView) (i : ℕ). value_in v.heap i) (sym c.meet_hold-b.ensures.parts) (sym c.meet_hold-b.ensures.address) ∙ c.value-old.ensures in
    was_reply h f.present f.records f.leftovers c.self.invariant now.address it place c.meet_hold-b.ensures.held m a valid (subst (λ (v : HeapView). IsPaired m a v.heap) (sym c.self.view_is) s) c.args.value c.value-old.result value

pub returns-clause-stands : goal.returns-clause-stands
returns-clause-stands c = λ m a stands.
    let valid = stands.valid in
    let s = stands.paired in
    record {
      valid = c.law_step.ensures.write m c.args.value (held_at m (tag_place c.args.hold.now.worker c.args.hold.now.tag)) valid;
      paired =
          let f = c.self.inside in
          let h = f.parts.heap in
          let now = c.args.hold.now in
          let place = tag_place now.worker now.tag in
          let it = of_tag h f.present f.records f.leftovers c.self.invariant place now.address c.meet_hold-b.ensures.held in
          let is : c.set_value.new.self.heap ≡ valued h now.address c.args.value =
          ap (λ (v : HeapView). v.heap) c.set_value.ensures ∙ ap₂ (λ (v : HeapView) (i : ℕ). valued v.heap i c.args.value) c.meet_hold-b.ensures.parts c.meet_hold-b.ensures.address in
          subst (λ (k : HeapState). IsPaired (write_step m c.args.value (held_at m place)).map a k) (sym is)
          (write_stands h f.present f.records f.leftovers c.self.invariant now.address it m a valid (subst (λ (v : HeapView). IsPaired m a v.heap) (sym c.self.view_is) s) place c.meet_hold-b.ensures.held c.args.value);
    }

pub returns-clause-places : goal.returns-clause-places
returns-clause-places c =
    let h = c.self.inside.parts.heap in
    let now = c.args.hold.now in
    let is : c.set_value.new.self.heap ≡ valued h now.address c.args.value =
    ap (λ (v : HeapView). v.heap) c.set_value.ensures ∙ ap₂ (λ (v : HeapView) (i : ℕ). valued v.heap i c.args.value) c.meet_hold-b.ensures.parts c.meet_hold-b.ensures.address in
    ap (λ (k : HeapState). places_of k.objects) is ∙ (places_changed h.objects now.address (with_value c.args.value) ∙ ap (λ (v : HeapView). places_of v.heap.objects) c.self.view_is)
