use Rattle.std.proofs.Common.{◌≡◌, ◌+◌, ◌-◌, ◌<◌, true, Some, None, [], ◌∷◌, ◌++◌, length, is_some, sym, ap, ◌∙◌, subst, arith}
use Rattle.std.proofs.lemmas.List.Sums.{count_by-le-length}
use Rattle.kmem_model.specs.Records.{id_of}
use Rattle.kmem_model.specs.Heap.{HeapState, IsPaired, address_of, object_at, places_of, is_leftover, blank}
use Rattle.record_heap.specs.View.{HeapView}
use Rattle.record_heap.specs.Kept.{IsHeapKept}
use Rattle.std.proofs.Math.Seq.{map-set_same}
use Rattle.kmem_model.specs.RecordStep.{put_step}
use Rattle.record_heap.specs.Changes.{made, first_object}
use Rattle.kmem_model.proofs.RecordsValid.{read_within}
use Rattle.record_heap.proofs.Kept.{one_if, leftover_blank}
use Rattle.record_heap.proofs.Stands.{no_record}
use Rattle.record_heap.proofs.Puts.{made_kept, made_stands, left_free, fewer_left}
use Rattle.record_heap.proofs.Sizes.{names_size}
use Rattle.record_heap.proofs.heap.RecordHeap.reuse.Goals as goal

pub reuse-requires-clause-object : goal.reuse-requires-clause-object
reuse-requires-clause-object c =
    let f = c.self.inside in
    let left : is_leftover (object_at f.parts.heap c.args.b) ≡ true = ap (λ (v : HeapView). is_leftover (object_at v.heap c.args.b)) c.self.view_is ∙ c.requires.leftover in
    leftover_blank f.parts.heap f.present f.records f.leftovers c.self.invariant c.args.b left

pub overflow_add-self : goal.overflow_add-self
overflow_add-self c =
    let f = c.self.inside in
    let h = f.parts.heap in
    let b = c.args.b in
    let n = c.args.name.0 in
    let below : n < length h.names = omega (arith, c.requires.name, ap (λ (v : HeapView). length v.heap.names) c.self.view_is) in
    let was : address_of h n ≡ None = ap (λ (v : HeapView). address_of v.heap n) c.self.view_is ∙ c.requires.absent in
    let left : is_leftover (object_at h b) ≡ true = ap (λ (v : HeapView). is_leftover (object_at v.heap b)) c.self.view_is ∙ c.requires.leftover in
    let low : b < length h.objects = read_within h.objects b blank (leftover_blank h f.present f.records f.leftovers c.self.invariant b left) in
    let k = made_kept h f.present f.records f.leftovers c.self.invariant n b c.args.value below low was (left_free h f.present f.records f.leftovers c.self.invariant b left) (no_record (object_at h b) left) (f.leftovers - 1)
    (omega (arith, fewer_left h f.present f.records f.leftovers c.self.invariant b left, ap one_if left)) in
    omega (arith, k.names_counted, k.names, count_by-le-length is_some (made h n b c.args.value).names)

pub overflow_sub-self : goal.overflow_sub-self
overflow_sub-self c =
    let f = c.self.inside in
    let left : is_leftover (object_at f.parts.heap c.args.b) ≡ true = ap (λ (v : HeapView). is_leftover (object_at v.heap c.args.b)) c.self.view_is ∙ c.requires.leftover in
    fewer_left f.parts.heap f.present f.records f.leftovers c.self.invariant c.args.b left

pub invariant_of-self : goal.invariant_of-self
invariant_of-self c =
    let f = c.self.inside in
    let h = f.parts.heap in
    let b = c.args.b in
    let n = c.args.name.0 in
    let below : n < length h.names = omega (arith, c.requires.name, ap (λ (v : HeapView). length v.heap.names) c.self.view_is) in
    let was : address_of h n ≡ None = ap (λ (v : HeapView). address_of v.heap n) c.self.view_is ∙ c.requires.absent in
    let left : is_leftover (object_at h b) ≡ true = ap (λ (v : HeapView). is_leftover (object_at v.heap b)) c.self.view_is ∙ c.requires.leftover in
    let low : b < length h.objects = read_within h.objects b blank (leftover_blank h f.present f.records f.leftovers c.self.invariant b left) in
    subst (λ (k : HeapState). IsHeapKept k (f.present + 1) (f.records + 1) (f.leftovers - 1)) (sym (ap (λ (v : HeapView). v.heap) c.reuse.ensures))
    (made_kept h f.present f.records f.leftovers c.self.invariant n b c.args.value below low was (left_free h f.present f.records f.leftovers c.self.invariant b left) (no_record (object_at h b) left) (f.leftovers - 1)
    (omega (arith, fewer_left h f.present f.records f.leftovers c.self.invariant b left, ap one_if left)))

pub returns-clause-new : goal.returns-clause-new
returns-clause-new c = λ m a stands.
    let valid = stands.valid in
    let s = stands.paired in
    record {
      valid = c.law_step.ensures.put m c.args.name.0 c.args.value valid (omega (arith, c.requires.name, names_size m a c.args.self.now.heap s));
      paired =
          let f = c.self.inside in
          let h = f.parts.heap in
          let b = c.args.b in
          let n = c.args.name.0 in
          let below : n < length h.names = omega (arith, c.requires.name, ap (λ (v : HeapView). length v.heap.names) c.self.view_is) in
          let was : address_of h n ≡ None = ap (λ (v : HeapView). address_of v.heap n) c.self.view_is ∙ c.requires.absent in
          let left : is_leftover (object_at h b) ≡ true = ap (λ (v : HeapView). is_leftover (object_at v.heap b)) c.self.view_is ∙ c.requires.leftover in
          let low : b < length h.objects = read_within h.objects b blank (leftover_blank h f.present f.records f.leftovers c.self.invariant b left) in
          subst (λ (k : HeapState). IsPaired (put_step m n c.args.value (id_of m n)).map (a ++ b ∷ []) k) (sym (ap (λ (v : HeapView). v.heap) c.reuse.ensures))
          (made_stands h f.present f.records f.leftovers c.self.invariant n b c.args.value below low was (left_free h f.present f.records f.leftovers c.self.invariant b left) (no_record (object_at h b) left) m a valid
          (subst (λ (v : HeapView). IsPaired m a v.heap) (sym c.self.view_is) s));
    }

pub returns-clause-places : goal.returns-clause-places
returns-clause-places c =
    let f = c.self.inside in
    let h = f.parts.heap in
    let b = c.args.b in
    let left : is_leftover (object_at h b) ≡ true = ap (λ (v : HeapView). is_leftover (object_at v.heap b)) c.self.view_is ∙ c.requires.leftover in
    ap (λ (v : HeapView). places_of v.heap.objects) c.reuse.ensures
    ∙ (map-set_same is_some h.objects b (Some (first_object c.args.name.0 c.args.value)) None (sym (ap is_some (leftover_blank h f.present f.records f.leftovers c.self.invariant b left))) ∙ ap (λ (v : HeapView). places_of v.heap.objects) c.self.view_is)
