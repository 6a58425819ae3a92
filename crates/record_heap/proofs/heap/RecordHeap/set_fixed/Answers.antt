use Rattle.std.proofs.Common.{◌≡◌, Some, sym, ap, ◌∙◌, subst}
use Rattle.kmem_model.specs.Records.{id_of}
use Rattle.kmem_model.specs.Heap.{HeapState, IsPaired, address_of, places_of}
use Rattle.record_heap.specs.View.{HeapView}
use Rattle.record_heap.specs.Kept.{IsHeapKept}
use Rattle.kmem_model.specs.RecordStep.{fix_step}
use Rattle.record_heap.specs.Objects.{with_fixed}
use Rattle.record_heap.proofs.Steps.{of_name, places_changed, fixed_kept}
use Rattle.record_heap.proofs.Holds.{fix_stands}
use Rattle.record_heap.proofs.heap.RecordHeap.set_fixed.Goals as goal

pub invariant_of-self : goal.invariant_of-self
invariant_of-self c =
    let f = c.self.inside in
    let h = f.parts.heap in
    let leads : address_of h c.args.name.0 ≡ Some c.in-Some.b = sym c.address.ensures ∙ c.in-Some.is in
    let it = of_name h f.present f.records f.leftovers c.self.invariant c.args.name.0 c.in-Some.b leads in
    subst (λ (k : HeapState). IsHeapKept k f.present f.records f.leftovers) (sym (ap (λ (v : HeapView). v.heap) c.set_fixed.ensures))
    (fixed_kept h f.present f.records f.leftovers c.self.invariant c.in-Some.b it c.args.fixed)

pub returns-clause-stands : goal.returns-clause-stands
returns-clause-stands c = λ m a stands.
    let valid = stands.valid in
    let s = stands.paired in
    record {
      valid = c.law_step.ensures.fix m c.args.fixed (id_of m c.args.name.0) valid;
      paired =
          let f = c.self.inside in
          let h = f.parts.heap in
          let leads : address_of h c.args.name.0 ≡ Some c.in-Some.b = sym c.address.ensures ∙ c.in-Some.is in
          let it = of_name h f.present f.records f.leftovers c.self.invariant c.args.name.0 c.in-Some.b leads in
          let now : IsPaired m a h = subst (λ (v : HeapView). IsPaired m a v.heap) (sym c.self.view_is) s in
          subst (λ (k : HeapState). IsPaired (fix_step m c.args.fixed (id_of m c.args.name.0)).map a k) (sym (ap (λ (v : HeapView). v.heap) c.set_fixed.ensures))
          (fix_stands h f.present f.records f.leftovers c.self.invariant c.in-Some.b it m a valid now c.args.name.0 leads c.args.fixed);
    }

pub returns-clause-places : goal.returns-clause-places
returns-clause-places c =
    let h = c.self.inside.parts.heap in
    ap (λ (v : HeapView). places_of v.heap.objects) c.set_fixed.ensures
    ∙ (places_changed h.objects c.in-Some.b (with_fixed c.args.fixed) ∙ ap (λ (v : HeapView). places_of v.heap.objects) c.self.view_is)
