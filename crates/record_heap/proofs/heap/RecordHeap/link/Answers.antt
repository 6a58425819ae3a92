use Rattle.std.proofs.Common.{◌≡◌, ◌+◌, ◌<◌, Some, None, length, is_some, sym, ap, ◌∙◌, subst, arith}
use Rattle.std.proofs.lemmas.List.Sums.{count_by-le-length}
use Rattle.kmem_model.specs.Records.{id_of}
use Rattle.kmem_model.specs.Heap.{HeapState, IsPaired, address_of, places_of}
use Rattle.record_heap.specs.View.{HeapView}
use Rattle.record_heap.specs.Kept.{IsHeapKept}
use Rattle.kmem_model.specs.RecordStep.{Step, link_step}
use Rattle.record_heap.specs.Objects.{with_back}
use Rattle.record_heap.specs.Changes.{linked, names_in}
use Rattle.record_heap.proofs.Steps.{of_name, places_changed, none_from}
use Rattle.record_heap.proofs.Names.{linked_kept, linked_stands, full_stays}
use Rattle.std.proofs.lemmas.Bool.{eqb-false}
use Rattle.record_heap.proofs.Sizes.{names_size}
use Rattle.record_heap.proofs.heap.RecordHeap.link.Goals as goal

pub returns-then-is_full-clause-reply : goal.returns-then-is_full-clause-reply
returns-then-is_full-clause-reply c = λ m a stands.
    let valid = stands.valid in
    let s = stands.paired in
    let f = c.self.inside in
    let h = f.parts.heap in
    let leads : address_of h c.args.name.0 ≡ Some c.in-Some.b = sym c.address.ensures ∙ c.in-Some.is in
    let free : address_of h c.args.other.0 ≡ None = sym c.address-2.ensures ∙ none_from c.address-2.result (sym c.is_some.ensures ∙ c.if-is_some.false) in
    let it = of_name h f.present f.records f.leftovers c.self.invariant c.args.name.0 c.in-Some.b leads in
    let now : IsPaired m a h = subst (λ (v : HeapView). IsPaired m a v.heap) (sym c.self.view_is) s in
    sym (ap (λ (q : Step). q.reply) (full_stays h f.present f.records f.leftovers c.self.invariant c.in-Some.b it m a valid now c.args.other.0 c.args.name.0 free leads (sym c.is_full.ensures.full ∙ c.if-is_full.true)))

pub returns-then-is_full-clause-stands : goal.returns-then-is_full-clause-stands
returns-then-is_full-clause-stands c = λ m a stands.
    let valid = stands.valid in
    let s = stands.paired in
    record {
      valid = c.law_step.ensures.link m c.args.name.0 c.args.other.0 valid (omega (arith, c.requires.1, names_size m a c.args.self.now.heap s));
      paired =
          let f = c.self.inside in
          let h = f.parts.heap in
          let leads : address_of h c.args.name.0 ≡ Some c.in-Some.b = sym c.address.ensures ∙ c.in-Some.is in
          let free : address_of h c.args.other.0 ≡ None = sym c.address-2.ensures ∙ none_from c.address-2.result (sym c.is_some.ensures ∙ c.if-is_some.false) in
          let it = of_name h f.present f.records f.leftovers c.self.invariant c.args.name.0 c.in-Some.b leads in
          let now : IsPaired m a h = subst (λ (v : HeapView). IsPaired m a v.heap) (sym c.self.view_is) s in
          subst (λ (q : Step). IsPaired q.map a c.args.self.now.heap)
          (sym (full_stays h f.present f.records f.leftovers c.self.invariant c.in-Some.b it m a valid now c.args.other.0 c.args.name.0 free leads (sym c.is_full.ensures.full ∙ c.if-is_full.true))) s;
    }

pub overflow_add-self : goal.overflow_add-self
overflow_add-self c =
    let f = c.self.inside in
    let h = f.parts.heap in
    let leads : address_of h c.args.name.0 ≡ Some c.in-Some.b = sym c.address.ensures ∙ c.in-Some.is in
    let free : address_of h c.args.other.0 ≡ None = sym c.address-2.ensures ∙ none_from c.address-2.result (sym c.is_some.ensures ∙ c.if-is_some.false) in
    let it = of_name h f.present f.records f.leftovers c.self.invariant c.args.name.0 c.in-Some.b leads in
    let below : c.args.other.0 < length h.names = omega (arith, c.requires.1, ap (λ (v : HeapView). length v.heap.names) c.self.view_is) in
    let k = linked_kept h f.present f.records f.leftovers c.self.invariant c.in-Some.b it c.args.other.0 below free in
    omega (arith, k.names_counted, k.names, count_by-le-length is_some (linked h c.args.other.0 c.in-Some.b).names)

pub invariant_of-self : goal.invariant_of-self
invariant_of-self c =
    let f = c.self.inside in
    let h = f.parts.heap in
    let leads : address_of h c.args.name.0 ≡ Some c.in-Some.b = sym c.address.ensures ∙ c.in-Some.is in
    let free : address_of h c.args.other.0 ≡ None = sym c.address-2.ensures ∙ none_from c.address-2.result (sym c.is_some.ensures ∙ c.if-is_some.false) in
    let it = of_name h f.present f.records f.leftovers c.self.invariant c.args.name.0 c.in-Some.b leads in
    let below : c.args.other.0 < length h.names = omega (arith, c.requires.1, ap (λ (v : HeapView). length v.heap.names) c.self.view_is) in
    subst (λ (k : HeapState). IsHeapKept k (f.present + 1) f.records f.leftovers) (sym (ap (λ (v : HeapView). v.heap) c.link.ensures))
    (linked_kept h f.present f.records f.leftovers c.self.invariant c.in-Some.b it c.args.other.0 below free)

pub returns-clause-reply : goal.returns-clause-reply
returns-clause-reply c = λ m a stands.
    let valid = stands.valid in
    let s = stands.paired in
    let f = c.self.inside in
    let h = f.parts.heap in
    let leads : address_of h c.args.name.0 ≡ Some c.in-Some.b = sym c.address.ensures ∙ c.in-Some.is in
    let free : address_of h c.args.other.0 ≡ None = sym c.address-2.ensures ∙ none_from c.address-2.result (sym c.is_some.ensures ∙ c.if-is_some.false) in
    let it = of_name h f.present f.records f.leftovers c.self.invariant c.args.name.0 c.in-Some.b leads in
    let below : c.args.other.0 < length h.names = omega (arith, c.requires.1, ap (λ (v : HeapView). length v.heap.names) c.self.view_is) in
    let now : IsPaired m a h = subst (λ (v : HeapView). IsPaired m a v.heap) (sym c.self.view_is) s in
    let n = length (names_in h c.in-Some.b) in
    let room : n < 8 = omega (arith, c.is_full.ensures.fits, eqb-false n 8 (sym c.is_full.ensures.full ∙ c.if-is_full.false)) in
    (linked_stands h f.present f.records f.leftovers c.self.invariant c.in-Some.b it c.args.other.0 below free m a valid now c.args.name.0 leads room).0

pub returns-clause-stands : goal.returns-clause-stands
returns-clause-stands c = λ m a stands.
    let valid = stands.valid in
    let s = stands.paired in
    record {
      valid = c.law_step.ensures.link m c.args.name.0 c.args.other.0 valid (omega (arith, c.requires.1, names_size m a c.args.self.now.heap s));
      paired =
          let f = c.self.inside in
          let h = f.parts.heap in
          let leads : address_of h c.args.name.0 ≡ Some c.in-Some.b = sym c.address.ensures ∙ c.in-Some.is in
          let free : address_of h c.args.other.0 ≡ None = sym c.address-2.ensures ∙ none_from c.address-2.result (sym c.is_some.ensures ∙ c.if-is_some.false) in
          let it = of_name h f.present f.records f.leftovers c.self.invariant c.args.name.0 c.in-Some.b leads in
          let below : c.args.other.0 < length h.names = omega (arith, c.requires.1, ap (λ (v : HeapView). length v.heap.names) c.self.view_is) in
          let now : IsPaired m a h = subst (λ (v : HeapView). IsPaired m a v.heap) (sym c.self.view_is) s in
          let n = length (names_in h c.in-Some.b) in
          let room : n < 8 = omega (arith, c.is_full.ensures.fits, eqb-false n 8 (sym c.is_full.ensures.full ∙ c.if-is_full.false)) in
          subst (λ (k : HeapState). IsPaired (link_step m c.args.other.0 (id_of m c.args.name.0)).map a k) (sym (ap (λ (v : HeapView). v.heap) c.link.ensures))
          (linked_stands h f.present f.records f.leftovers c.self.invariant c.in-Some.b it c.args.other.0 below free m a valid now c.args.name.0 leads room).1;
    }

pub returns-clause-places : goal.returns-clause-places
returns-clause-places c =
    let h = c.self.inside.parts.heap in
    ap (λ (v : HeapView). places_of v.heap.objects) c.link.ensures
    ∙ (places_changed h.objects c.in-Some.b (with_back c.args.other.0) ∙ ap (λ (v : HeapView). places_of v.heap.objects) c.self.view_is)
