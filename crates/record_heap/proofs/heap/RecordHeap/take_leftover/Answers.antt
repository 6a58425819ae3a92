use Rattle.std.proofs.Common.{ℕ, ◌-◌, false, Some, None, set, is_some, sym, ap, ap₂, ◌∙◌, subst}
use Rattle.kmem_model.specs.Heap.{HeapState, IsPaired, object_at, places_of, is_leftover, blank}
use Rattle.record_heap.specs.View.{HeapView}
use Rattle.record_heap.specs.Kept.{IsHeapKept}
use Rattle.std.proofs.lemmas.List.{map-set}
use Rattle.kmem_buf.specs.Homes.{IsBufferOf}
use Rattle.record_heap.proofs.Kept.{leftover_blank, some_is}
use Rattle.record_heap.proofs.Puts.{without_kept, without_stands}
use Rattle.record_heap.proofs.heap.RecordHeap.take_leftover.Goals as goal

pub invariant_of-self : goal.invariant_of-self
invariant_of-self c =
    let f = c.self.inside in
    subst (λ (k : HeapState). IsHeapKept k f.present f.records (f.leftovers - 1)) (sym (ap (λ (v : HeapView). v.heap) c.take_out.ensures.parts))
    (without_kept f.parts.heap f.present f.records f.leftovers c.self.invariant c.in_ok-b.b (ap (λ (v : HeapView). is_leftover (object_at v.heap c.in_ok-b.b)) c.self.view_is ∙ c.in_ok-b.ensures.found))

pub returns-clause-buf : goal.returns-clause-buf
returns-clause-buf c =
    let f = c.self.inside in
    let is = leftover_blank f.parts.heap f.present f.records f.leftovers c.self.invariant c.in_ok-b.b (ap (λ (v : HeapView). is_leftover (object_at v.heap c.in_ok-b.b)) c.self.view_is ∙ c.in_ok-b.ensures.found) in (
      sym c.in_ok-b.ensures.least ∙ ap Some (sym c.take_out.ensures.buf.0),
      some_is c.take_out.result.object blank (sym c.take_out.ensures.object ∙ is),
      subst (λ (v : HeapView). IsBufferOf v.home.cells c.take_out.result) c.self.view_is c.take_out.ensures.buf.1,
    )

pub returns-clause-stands : goal.returns-clause-stands
returns-clause-stands c = λ m a stands.
    let valid = stands.valid in
    let s = stands.paired in
    record {
      valid = valid;
      paired =
          let f = c.self.inside in
          subst (λ (k : HeapState). IsPaired m a k) (sym (ap (λ (v : HeapView). v.heap) c.take_out.ensures.parts))
          (without_stands f.parts.heap f.present f.records f.leftovers c.self.invariant c.in_ok-b.b (ap (λ (v : HeapView). is_leftover (object_at v.heap c.in_ok-b.b)) c.self.view_is ∙ c.in_ok-b.ensures.found) m a (subst (λ (v : HeapView). IsPaired m a v.heap) (sym c.self.view_is) s));
    }

pub returns-clause-places : goal.returns-clause-places
returns-clause-places c =
    let f = c.self.inside in
    ap (λ (v : HeapView). places_of v.heap.objects) c.take_out.ensures.parts
    ∙ (map-set is_some f.parts.heap.objects c.in_ok-b.b None ∙ ap₂ (λ (v : HeapView) (i : ℕ). set (places_of v.heap.objects) i false) c.self.view_is (sym c.take_out.ensures.buf.0))
