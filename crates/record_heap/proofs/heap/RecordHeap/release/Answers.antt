use Rattle.std.proofs.Common.{◌≡◌, ℕ, ◌+◌, ◌-◌, true, false, Some, None, is_some, sym, ap, ap₂, ◌∙◌, subst, arith}
use Rattle.kmem_model.specs.Records.{held_at, tag_place}
use Rattle.kmem_model.specs.Heap.{HeapState, IsPaired, object_at, places_of, blank}
use Rattle.record_heap.specs.View.{HeapView}
use Rattle.record_heap.specs.Kept.{IsHeapKept}
use Rattle.kmem_model.specs.RecordStep.{drop_step}
use Rattle.std.proofs.Math.Seq.{map-set_same}
use Rattle.record_heap.specs.Objects.{held_less, is_unused}
use Rattle.record_heap.specs.Changes.{holds_in, changed_at, untagged, with_object}
use Rattle.record_heap.proofs.Steps.{of_tag, places_changed, unused_is}
use Rattle.record_heap.proofs.Holds.{object_less, untagged_kept, left_kept, untagged_stands, left_stands, some_record, held_some}
use Rattle.record_heap.proofs.heap.RecordHeap.release.Goals as goal
use Rattle.record_heap.proofs.heap.RecordHeap.release.Goals.{then-is_unused, else-is_unused}

pub hold_less-requires-clause-some : goal.hold_less-requires-clause-some
hold_less-requires-clause-some c =
    let f = c.self.inside in
    let h = f.parts.heap in
    let hold = c.args.hold in
    let place = tag_place hold.worker hold.tag in
    let it = of_tag h f.present f.records f.leftovers c.self.invariant place hold.address c.end_hold-b.ensures.held in
    omega (arith, held_some h f.present f.records f.leftovers c.self.invariant hold.address it place c.end_hold-b.ensures.held, ap₂ (λ (v : HeapView) (i : ℕ). holds_in v.heap i) c.end_hold-b.ensures.parts c.end_hold-b.ensures.address)

pub overflow_sub-self : goal.overflow_sub-self
overflow_sub-self c =
    let f = c.self.inside in
    let h = f.parts.heap in
    let hold = c.args.hold in
    let place = tag_place hold.worker hold.tag in
    let it = of_tag h f.present f.records f.leftovers c.self.invariant place hold.address c.end_hold-b.ensures.held in
    some_record h f.present f.records f.leftovers c.self.invariant hold.address it place c.end_hold-b.ensures.held

pub invariant_of-self : goal.invariant_of-self
invariant_of-self c =
    let f = c.self.inside in
    let h = f.parts.heap in
    let hold = c.args.hold in
    let place = tag_place hold.worker hold.tag in
    let it = of_tag h f.present f.records f.leftovers c.self.invariant place hold.address c.end_hold-b.ensures.held in
    let less : c.hold_less.new.self.heap ≡ untagged h place hold.address =
    ap (λ (v : HeapView). v.heap) c.hold_less.ensures ∙ ap₂ (λ (v : HeapView) (i : ℕ). changed_at v.heap i held_less) c.end_hold-b.ensures.parts c.end_hold-b.ensures.address in
    let unused : is_unused (held_less it.o) ≡ true =
    unused_is (object_at c.hold_less.new.self.heap c.end_hold-b.result) (held_less it.o) c.is_unused.result
    (ap₂ (λ (k : HeapState) (i : ℕ). object_at k i) less c.end_hold-b.ensures.address ∙ object_less h f.present f.records f.leftovers c.self.invariant hold.address it place c.end_hold-b.ensures.held) c.is_unused.ensures
    ∙ c.if-is_unused.true in
    subst (λ (k : HeapState). IsHeapKept k f.present (f.records - 1) (f.leftovers + 1))
    (sym (ap (λ (v : HeapView). v.heap) c.leave.ensures ∙ ap₂ (λ (k : HeapState) (i : ℕ). with_object k i (Some blank)) less c.end_hold-b.ensures.address))
    (left_kept h f.present f.records f.leftovers c.self.invariant hold.address it place c.end_hold-b.ensures.held unused)

pub invariant_of-self-else-is_unused : goal.invariant_of-self-else-is_unused
invariant_of-self-else-is_unused c =
    let f = c.self.inside in
    let h = f.parts.heap in
    let hold = c.args.hold in
    let place = tag_place hold.worker hold.tag in
    let it = of_tag h f.present f.records f.leftovers c.self.invariant place hold.address c.end_hold-b.ensures.held in
    let less : c.hold_less.new.self.heap ≡ untagged h place hold.address =
    ap (λ (v : HeapView). v.heap) c.hold_less.ensures ∙ ap₂ (λ (v : HeapView) (i : ℕ). changed_at v.heap i held_less) c.end_hold-b.ensures.parts c.end_hold-b.ensures.address in
    let used : is_unused (held_less it.o) ≡ false =
    unused_is (object_at c.hold_less.new.self.heap c.end_hold-b.result) (held_less it.o) c.is_unused.result
    (ap₂ (λ (k : HeapState) (i : ℕ). object_at k i) less c.end_hold-b.ensures.address ∙ object_less h f.present f.records f.leftovers c.self.invariant hold.address it place c.end_hold-b.ensures.held) c.is_unused.ensures
    ∙ c.if-is_unused.false in
    subst (λ (k : HeapState). IsHeapKept k f.present f.records f.leftovers) (sym less)
    (untagged_kept h f.present f.records f.leftovers c.self.invariant hold.address it place c.end_hold-b.ensures.held used)

pub returns-clause-stands : goal.returns-clause-stands
returns-clause-stands c = λ m a stands.
    let valid = stands.valid in
    let s = stands.paired in
    record {
      valid = c.law_step.ensures.drop m (tag_place c.args.hold.worker c.args.hold.tag) valid;
      paired =
          let f = c.self.inside in
          let h = f.parts.heap in
          let hold = c.args.hold in
          let place = tag_place hold.worker hold.tag in
          let it = of_tag h f.present f.records f.leftovers c.self.invariant place hold.address c.end_hold-b.ensures.held in
          let less : c.hold_less.new.self.heap ≡ untagged h place hold.address =
          ap (λ (v : HeapView). v.heap) c.hold_less.ensures ∙ ap₂ (λ (v : HeapView) (i : ℕ). changed_at v.heap i held_less) c.end_hold-b.ensures.parts c.end_hold-b.ensures.address in
          let told =
          unused_is (object_at c.hold_less.new.self.heap c.end_hold-b.result) (held_less it.o) c.is_unused.result
          (ap₂ (λ (k : HeapState) (i : ℕ). object_at k i) less c.end_hold-b.ensures.address ∙ object_less h f.present f.records f.leftovers c.self.invariant hold.address it place c.end_hold-b.ensures.held) c.is_unused.ensures in
          let now : IsPaired m a h = subst (λ (v : HeapView). IsPaired m a v.heap) (sym c.self.view_is) s in
          elim c.if-is_unused.branch [
            | then-is_unused w ↦
                subst (λ (v : HeapView). IsPaired (drop_step m place (held_at m place)).map a v.heap) (sym w.self-is)
                (subst (λ (k : HeapState). IsPaired (drop_step m place (held_at m place)).map a k)
                (sym (ap (λ (v : HeapView). v.heap) w.leave.ensures ∙ ap₂ (λ (k : HeapState) (i : ℕ). with_object k i (Some blank)) less c.end_hold-b.ensures.address))
                (left_stands h f.present f.records f.leftovers c.self.invariant hold.address it place c.end_hold-b.ensures.held m a valid now (told ∙ w.if-is_unused.true)))
            | else-is_unused w ↦
                subst (λ (v : HeapView). IsPaired (drop_step m place (held_at m place)).map a v.heap) (sym w.self-is)
                (subst (λ (k : HeapState). IsPaired (drop_step m place (held_at m place)).map a k) (sym less)
                (untagged_stands h f.present f.records f.leftovers c.self.invariant hold.address it place c.end_hold-b.ensures.held m a valid now (told ∙ w.if-is_unused.false)))
          ];
    }

pub returns-clause-places : goal.returns-clause-places
returns-clause-places c =
    let f = c.self.inside in
    let h = f.parts.heap in
    let hold = c.args.hold in
    let place = tag_place hold.worker hold.tag in
    let it = of_tag h f.present f.records f.leftovers c.self.invariant place hold.address c.end_hold-b.ensures.held in
    let less : c.hold_less.new.self.heap ≡ untagged h place hold.address =
    ap (λ (v : HeapView). v.heap) c.hold_less.ensures ∙ ap₂ (λ (v : HeapView) (i : ℕ). changed_at v.heap i held_less) c.end_hold-b.ensures.parts c.end_hold-b.ensures.address in
    let was : places_of c.hold_less.new.self.heap.objects ≡ places_of c.args.self.now.heap.objects =
    ap (λ (k : HeapState). places_of k.objects) less ∙ (places_changed h.objects hold.address held_less ∙ ap (λ (v : HeapView). places_of v.heap.objects) c.self.view_is) in
    let at : object_at c.hold_less.new.self.heap c.end_hold-b.result ≡ Some (held_less it.o) =
    ap₂ (λ (k : HeapState) (i : ℕ). object_at k i) less c.end_hold-b.ensures.address ∙ object_less h f.present f.records f.leftovers c.self.invariant hold.address it place c.end_hold-b.ensures.held in
    elim c.if-is_unused.branch [
      | then-is_unused w ↦
          ap (λ (v : HeapView). places_of v.heap.objects) w.self-is
          ∙ (ap (λ (v : HeapView). places_of v.heap.objects) w.leave.ensures
          ∙ (map-set_same is_some c.hold_less.new.self.heap.objects c.end_hold-b.result (Some blank) None (sym (ap is_some at)) ∙ was))
      | else-is_unused w ↦ ap (λ (v : HeapView). places_of v.heap.objects) w.self-is ∙ was
    ]
