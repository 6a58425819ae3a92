use Rattle.std.proofs.Common.{◌≡◌, ◌+◌, ◌<◌, true, Option, Some, None, [], ◌∷◌, ◌++◌, length, set, is_some, sym, ap, ◌∙◌, subst, arith}
use Rattle.std.proofs.lemmas.List.Sums.{count_by-le-length}
use Rattle.kmem_model.specs.Records.{id_of}
use Rattle.kmem_model.specs.Heap.{Object, HeapState, IsPaired, address_of, places_of, has_record, is_leftover}
use Rattle.record_heap.specs.View.{HeapView}
use Rattle.record_heap.specs.Kept.{IsHeapKept}
use Rattle.std.proofs.lemmas.List.{map-set}
use Rattle.kmem_model.specs.RecordStep.{put_step}
use Rattle.record_heap.specs.Changes.{made, first_object}
use Rattle.record_heap.proofs.Kept.{one_if}
use Rattle.record_heap.proofs.Puts.{made_kept, made_stands, empty_free}
use Rattle.record_heap.proofs.Sizes.{names_size}
use Rattle.record_heap.proofs.heap.RecordHeap.make.Goals as goal

pub overflow_add-self : goal.overflow_add-self
overflow_add-self c =
    let f = c.self.inside in
    let h = f.parts.heap in
    let b = c.args.buf.number in
    let n = c.args.name.0 in
    let below : n < length h.names = omega (arith, c.requires.name, ap (λ (v : HeapView). length v.heap.names) c.self.view_is) in
    let was : address_of h n ≡ None = ap (λ (v : HeapView). address_of v.heap n) c.self.view_is ∙ c.requires.absent in
    let k = made_kept h f.present f.records f.leftovers c.self.invariant n b c.args.value below c.make.ensures.range was (empty_free h f.present f.records f.leftovers c.self.invariant b c.make.ensures.empty) (ap has_record c.make.ensures.empty) f.leftovers (omega (arith, ap (λ (x : Option Object). one_if (is_leftover x)) c.make.ensures.empty)) in
    omega (arith, k.names_counted, k.names, count_by-le-length is_some (made h n b c.args.value).names)

pub invariant_of-self : goal.invariant_of-self
invariant_of-self c =
    let f = c.self.inside in
    let h = f.parts.heap in
    let b = c.args.buf.number in
    let n = c.args.name.0 in
    let below : n < length h.names = omega (arith, c.requires.name, ap (λ (v : HeapView). length v.heap.names) c.self.view_is) in
    let was : address_of h n ≡ None = ap (λ (v : HeapView). address_of v.heap n) c.self.view_is ∙ c.requires.absent in
    subst (λ (k : HeapState). IsHeapKept k (f.present + 1) (f.records + 1) f.leftovers) (sym (ap (λ (v : HeapView). v.heap) c.make.ensures.parts))
    (made_kept h f.present f.records f.leftovers c.self.invariant n b c.args.value below c.make.ensures.range was (empty_free h f.present f.records f.leftovers c.self.invariant b c.make.ensures.empty) (ap has_record c.make.ensures.empty) f.leftovers (omega (arith, ap (λ (x : Option Object). one_if (is_leftover x)) c.make.ensures.empty)))

pub returns-clause-new : goal.returns-clause-new
returns-clause-new c = λ m a stands.
    let valid = stands.valid in
    let s = stands.paired in
    record {
      valid = c.law_step.ensures.put m c.args.name.0 c.args.value valid (omega (arith, c.requires.name, names_size m a c.args.self.now.heap s));
      paired =
          let f = c.self.inside in
          let h = f.parts.heap in
          let b = c.args.buf.number in
          let n = c.args.name.0 in
          let below : n < length h.names = omega (arith, c.requires.name, ap (λ (v : HeapView). length v.heap.names) c.self.view_is) in
          let was : address_of h n ≡ None = ap (λ (v : HeapView). address_of v.heap n) c.self.view_is ∙ c.requires.absent in
          subst (λ (k : HeapState). IsPaired (put_step m n c.args.value (id_of m n)).map (a ++ b ∷ []) k) (sym (ap (λ (v : HeapView). v.heap) c.make.ensures.parts))
          (made_stands h f.present f.records f.leftovers c.self.invariant n b c.args.value below c.make.ensures.range was (empty_free h f.present f.records f.leftovers c.self.invariant b c.make.ensures.empty) (ap has_record c.make.ensures.empty) m a valid
          (subst (λ (v : HeapView). IsPaired m a v.heap) (sym c.self.view_is) s));
    }

pub returns-clause-places : goal.returns-clause-places
returns-clause-places c =
    let h = c.self.inside.parts.heap in
    let b = c.args.buf.number in
    ap (λ (v : HeapView). places_of v.heap.objects) c.make.ensures.parts
    ∙ (map-set is_some h.objects b (Some (first_object c.args.name.0 c.args.value)) ∙ ap (λ (v : HeapView). set (places_of v.heap.objects) b true) c.self.view_is)
