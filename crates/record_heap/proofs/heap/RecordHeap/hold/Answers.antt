use Rattle.std.proofs.Common.{◌≡◌, ◌<◌, Some, None, length, sym, ap, ◌∙◌, subst, arith}
use Rattle.kmem_model.specs.Records.{id_of, held_at, tag_place}
use Rattle.kmem_model.specs.Heap.{HeapState, IsPaired, address_of, hold_at, places_of}
use Rattle.record_heap.specs.View.{HeapView}
use Rattle.record_heap.specs.Kept.{IsHeapKept}
use Rattle.kmem_model.specs.RecordStep.{hold_step}
use Rattle.record_heap.specs.Objects.{held_more}
use Rattle.record_heap.proofs.Steps.{of_name, places_changed, none_from}
use Rattle.record_heap.proofs.Holds.{few_holds, tagged_kept, tagged_stands}
use Rattle.record_heap.proofs.Sizes.{tags_size}
use Rattle.record_heap.proofs.heap.RecordHeap.hold.Goals as goal

pub hold-requires-clause-few : goal.hold-requires-clause-few
hold-requires-clause-few c =
    let f = c.self.inside in
    let h = f.parts.heap in
    let leads : address_of h c.args.name.0 ≡ Some c.in-Some.b = sym c.address.ensures ∙ c.in-Some.is in
    few_holds h f.present f.records f.leftovers c.self.invariant c.in-Some.b (of_name h f.present f.records f.leftovers c.self.invariant c.args.name.0 c.in-Some.b leads)

pub invariant_of-self : goal.invariant_of-self
invariant_of-self c =
    let f = c.self.inside in
    let h = f.parts.heap in
    let place = tag_place c.args.worker c.args.tag in
    let leads : address_of h c.args.name.0 ≡ Some c.in-Some.b = sym c.address.ensures ∙ c.in-Some.is in
    let free : hold_at h place ≡ None = none_from (hold_at h place) (sym c.is_used.ensures.used ∙ c.if-is_used.false) in
    let low : place < length h.tags = omega (arith, c.requires.worker, c.is_used.ensures.low, ap (λ (v : HeapView). length v.heap.tags) c.self.view_is) in
    let it = of_name h f.present f.records f.leftovers c.self.invariant c.args.name.0 c.in-Some.b leads in
    subst (λ (k : HeapState). IsHeapKept k f.present f.records f.leftovers) (sym (ap (λ (v : HeapView). v.heap) c.hold.ensures.parts))
    (tagged_kept h f.present f.records f.leftovers c.self.invariant c.in-Some.b it place low free)

pub returns-clause-stands : goal.returns-clause-stands
returns-clause-stands c = λ m a stands.
    let valid = stands.valid in
    let s = stands.paired in
    record {
      valid = c.law_step.ensures.hold m (tag_place c.args.worker c.args.tag) c.args.name.0 valid (omega (arith, c.requires.worker, c.is_used.ensures.low, tags_size m a c.args.self.now.heap s));
      paired =
          let f = c.self.inside in
          let h = f.parts.heap in
          let place = tag_place c.args.worker c.args.tag in
          let leads : address_of h c.args.name.0 ≡ Some c.in-Some.b = sym c.address.ensures ∙ c.in-Some.is in
          let free : hold_at h place ≡ None = none_from (hold_at h place) (sym c.is_used.ensures.used ∙ c.if-is_used.false) in
          let low : place < length h.tags = omega (arith, c.requires.worker, c.is_used.ensures.low, ap (λ (v : HeapView). length v.heap.tags) c.self.view_is) in
          let it = of_name h f.present f.records f.leftovers c.self.invariant c.args.name.0 c.in-Some.b leads in
          subst (λ (k : HeapState). IsPaired (hold_step m place (held_at m place) (id_of m c.args.name.0)).map a k) (sym (ap (λ (v : HeapView). v.heap) c.hold.ensures.parts))
          (tagged_stands h f.present f.records f.leftovers c.self.invariant c.in-Some.b it place low free m a valid (subst (λ (v : HeapView). IsPaired m a v.heap) (sym c.self.view_is) s) c.args.name.0 leads).1;
    }

pub returns-clause-places : goal.returns-clause-places
returns-clause-places c =
    let h = c.self.inside.parts.heap in
    ap (λ (v : HeapView). places_of v.heap.objects) c.hold.ensures.parts
    ∙ (places_changed h.objects c.in-Some.b held_more ∙ ap (λ (v : HeapView). places_of v.heap.objects) c.self.view_is)
