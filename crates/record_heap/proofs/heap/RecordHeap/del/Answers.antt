use Rattle.std.proofs.Common.{◌≡◌, ℕ, ◌-◌, Bool, true, false, Some, None, List, set, is_some, sym, ap, ap₂, ◌∙◌, subst}
use Rattle.kmem_model.specs.Records.{id_of}
use Rattle.kmem_model.specs.Heap.{HeapState, IsPaired, address_of, object_at, places_of}
use Rattle.record_heap.specs.View.{HeapView}
use Rattle.record_heap.specs.Kept.{IsHeapKept}
use Rattle.std.proofs.lemmas.List.{map-set}
use Rattle.kmem_buf.specs.Homes.{IsBufferOf}
use Rattle.kmem_model.specs.RecordStep.{del_step}
use Rattle.record_heap.specs.Objects.{without_back, is_unused}
use Rattle.record_heap.specs.Changes.{unlinked, with_object}
use Rattle.record_heap.proofs.Steps.{of_name, value_there, places_changed, unused_is}
use Rattle.record_heap.proofs.Names.{object_left, unlinked_kept, ended_kept, unlinked_stands, ended_stands, gone_reply, lives_on, ends_now, some_record}
use Rattle.record_heap.proofs.heap.RecordHeap.del.Goals as goal

pub value-value-requires : goal.value-value-requires
value-value-requires c =
    let f = c.self.inside in
    let h = f.parts.heap in
    let leads : address_of h c.args.name.0 ≡ Some c.in-Some.b = sym c.address.ensures ∙ c.in-Some.is in
    value_there h c.in-Some.b (of_name h f.present f.records f.leftovers c.self.invariant c.args.name.0 c.in-Some.b leads)

pub is_unused-requires : goal.is_unused-requires
is_unused-requires c =
    let f = c.self.inside in
    let h = f.parts.heap in
    let b = c.in-Some.b in
    let leads : address_of h c.args.name.0 ≡ Some b = sym c.address.ensures ∙ c.in-Some.is in
    let it = of_name h f.present f.records f.leftovers c.self.invariant c.args.name.0 b leads in
    ap (λ (v : HeapView). is_some (object_at v.heap b)) c.unlink.ensures
    ∙ ap is_some (object_left h f.present f.records f.leftovers c.self.invariant b it c.args.name.0 leads)

pub invariant_of-self : goal.invariant_of-self
invariant_of-self c =
    let f = c.self.inside in
    let h = f.parts.heap in
    let b = c.in-Some.b in
    let n = c.args.name.0 in
    let leads : address_of h n ≡ Some b = sym c.address.ensures ∙ c.in-Some.is in
    let it = of_name h f.present f.records f.leftovers c.self.invariant n b leads in
    let used : is_unused (without_back n it.o) ≡ false =
    unused_is (object_at c.unlink.new.self.heap b) (without_back n it.o) c.is_unused.result (ap (λ (v : HeapView). object_at v.heap b) c.unlink.ensures ∙ object_left h f.present f.records f.leftovers c.self.invariant b it n leads) c.is_unused.ensures
    ∙ c.if-not-is_unused.true in
    subst (λ (k : HeapState). IsHeapKept k (f.present - 1) f.records f.leftovers) (sym (ap (λ (v : HeapView). v.heap) c.unlink.ensures))
    (unlinked_kept h f.present f.records f.leftovers c.self.invariant b it n leads used)

pub returns-then-not-is_unused-clause-reply : goal.returns-then-not-is_unused-clause-reply
returns-then-not-is_unused-clause-reply c = λ m a stands.
    let valid = stands.valid in
    let s = stands.paired in
    let f = c.self.inside in
    let h = f.parts.heap in
    let b = c.in-Some.b in
    let n = c.args.name.0 in
    let leads : address_of h n ≡ Some b = sym c.address.ensures ∙ c.in-Some.is in
    let it = of_name h f.present f.records f.leftovers c.self.invariant n b leads in
    let now : IsPaired m a h = subst (λ (v : HeapView). IsPaired m a v.heap) (sym c.self.view_is) s in
    gone_reply h f.present f.records f.leftovers c.self.invariant b it n leads m a valid now c.value-value.result c.value-value.ensures

pub returns-then-not-is_unused-clause-stands : goal.returns-then-not-is_unused-clause-stands
returns-then-not-is_unused-clause-stands c = λ m a stands.
    let valid = stands.valid in
    let s = stands.paired in
    record {
      valid = c.law_step.ensures.del m c.args.name.0 valid;
      paired =
          let f = c.self.inside in
          let h = f.parts.heap in
          let b = c.in-Some.b in
          let n = c.args.name.0 in
          let leads : address_of h n ≡ Some b = sym c.address.ensures ∙ c.in-Some.is in
          let it = of_name h f.present f.records f.leftovers c.self.invariant n b leads in
          let used : is_unused (without_back n it.o) ≡ false =
          unused_is (object_at c.unlink.new.self.heap b) (without_back n it.o) c.is_unused.result (ap (λ (v : HeapView). object_at v.heap b) c.unlink.ensures ∙ object_left h f.present f.records f.leftovers c.self.invariant b it n leads) c.is_unused.ensures
          ∙ c.if-not-is_unused.true in
          let now : IsPaired m a h = subst (λ (v : HeapView). IsPaired m a v.heap) (sym c.self.view_is) s in
          subst (λ (k : HeapState). IsPaired (del_step m n (id_of m n)).map a k) (sym (ap (λ (v : HeapView). v.heap) c.unlink.ensures))
          (unlinked_stands h f.present f.records f.leftovers c.self.invariant b it n leads m a valid now used);
    }

pub returns-then-not-is_unused-clause-kept : goal.returns-then-not-is_unused-clause-kept
returns-then-not-is_unused-clause-kept c =
    let f = c.self.inside in
    let h = f.parts.heap in
    let b = c.in-Some.b in
    let n = c.args.name.0 in
    let leads : address_of h n ≡ Some b = sym c.address.ensures ∙ c.in-Some.is in
    let it = of_name h f.present f.records f.leftovers c.self.invariant n b leads in
    let used : is_unused (without_back n it.o) ≡ false =
    unused_is (object_at c.unlink.new.self.heap b) (without_back n it.o) c.is_unused.result (ap (λ (v : HeapView). object_at v.heap b) c.unlink.ensures ∙ object_left h f.present f.records f.leftovers c.self.invariant b it n leads) c.is_unused.ensures
    ∙ c.if-not-is_unused.true in
    record {
      lives = λ m a stands id is.
          let valid = stands.valid in
          let s = stands.paired in
          lives_on h f.present f.records f.leftovers c.self.invariant b it n leads m a valid (subst (λ (v : HeapView). IsPaired m a v.heap) (sym c.self.view_is) s) used id is;
      places =
          ap (λ (v : HeapView). places_of v.heap.objects) c.unlink.ensures
          ∙ (places_changed h.objects b (without_back n) ∙ ap (λ (v : HeapView). places_of v.heap.objects) c.self.view_is);
    }

pub overflow_sub-self-2 : goal.overflow_sub-self-2
overflow_sub-self-2 c =
    let f = c.self.inside in
    let h = f.parts.heap in
    let b = c.in-Some.b in
    let leads : address_of h c.args.name.0 ≡ Some b = sym c.address.ensures ∙ c.in-Some.is in
    let it = of_name h f.present f.records f.leftovers c.self.invariant c.args.name.0 b leads in
    some_record h f.present f.records f.leftovers c.self.invariant b it c.args.name.0 leads

pub invariant_of-self-2 : goal.invariant_of-self-2
invariant_of-self-2 c =
    let f = c.self.inside in
    let h = f.parts.heap in
    let b = c.in-Some.b in
    let n = c.args.name.0 in
    let leads : address_of h n ≡ Some b = sym c.address.ensures ∙ c.in-Some.is in
    let it = of_name h f.present f.records f.leftovers c.self.invariant n b leads in
    let unused : is_unused (without_back n it.o) ≡ true =
    unused_is (object_at c.unlink.new.self.heap b) (without_back n it.o) c.is_unused.result (ap (λ (v : HeapView). object_at v.heap b) c.unlink.ensures ∙ object_left h f.present f.records f.leftovers c.self.invariant b it n leads) c.is_unused.ensures
    ∙ c.if-not-is_unused.false in
    subst (λ (k : HeapState). IsHeapKept k (f.present - 1) (f.records - 1) f.leftovers)
    (sym (ap (λ (v : HeapView). v.heap) c.end.ensures.parts ∙ ap (λ (v : HeapView). with_object v.heap b None) c.unlink.ensures))
    (ended_kept h f.present f.records f.leftovers c.self.invariant b it n leads unused)

pub returns-clause-reply : goal.returns-clause-reply
returns-clause-reply c = λ m a stands.
    let valid = stands.valid in
    let s = stands.paired in
    let f = c.self.inside in
    let h = f.parts.heap in
    let b = c.in-Some.b in
    let n = c.args.name.0 in
    let leads : address_of h n ≡ Some b = sym c.address.ensures ∙ c.in-Some.is in
    let it = of_name h f.present f.records f.leftovers c.self.invariant n b leads in
    let now : IsPaired m a h = subst (λ (v : HeapView). IsPaired m a v.heap) (sym c.self.view_is) s in
    gone_reply h f.present f.records f.leftovers c.self.invariant b it n leads m a valid now c.value-value.result c.value-value.ensures

pub returns-clause-stands : goal.returns-clause-stands
returns-clause-stands c = λ m a stands.
    let valid = stands.valid in
    let s = stands.paired in
    record {
      valid = c.law_step.ensures.del m c.args.name.0 valid;
      paired =
          let f = c.self.inside in
          let h = f.parts.heap in
          let b = c.in-Some.b in
          let n = c.args.name.0 in
          let leads : address_of h n ≡ Some b = sym c.address.ensures ∙ c.in-Some.is in
          let it = of_name h f.present f.records f.leftovers c.self.invariant n b leads in
          let unused : is_unused (without_back n it.o) ≡ true =
          unused_is (object_at c.unlink.new.self.heap b) (without_back n it.o) c.is_unused.result (ap (λ (v : HeapView). object_at v.heap b) c.unlink.ensures ∙ object_left h f.present f.records f.leftovers c.self.invariant b it n leads) c.is_unused.ensures
          ∙ c.if-not-is_unused.false in
          let now : IsPaired m a h = subst (λ (v : HeapView). IsPaired m a v.heap) (sym c.self.view_is) s in
          subst (λ (k : HeapState). IsPaired (del_step m n (id_of m n)).map a k)
          (sym (ap (λ (v : HeapView). v.heap) c.end.ensures.parts ∙ ap (λ (v : HeapView). with_object v.heap b None) c.unlink.ensures))
          (ended_stands h f.present f.records f.leftovers c.self.invariant b it n leads m a valid now unused);
    }

pub returns-clause-out : goal.returns-clause-out
returns-clause-out c =
    let f = c.self.inside in
    let h = f.parts.heap in
    let b = c.in-Some.b in
    let n = c.args.name.0 in
    let leads : address_of h n ≡ Some b = sym c.address.ensures ∙ c.in-Some.is in
    let it = of_name h f.present f.records f.leftovers c.self.invariant n b leads in
    let unused : is_unused (without_back n it.o) ≡ true =
    unused_is (object_at c.unlink.new.self.heap b) (without_back n it.o) c.is_unused.result (ap (λ (v : HeapView). object_at v.heap b) c.unlink.ensures ∙ object_left h f.present f.records f.leftovers c.self.invariant b it n leads) c.is_unused.ensures
    ∙ c.if-not-is_unused.false in
    let number = c.end.ensures.buf.0 in
    record {
      ready =
          record {
            of = subst (λ (v : HeapView). IsBufferOf v.home.cells c.end.result) (c.unlink.ensures ∙ ap (λ (v : HeapView). record v { heap = unlinked v.heap n b }) c.self.view_is) c.end.ensures.buf.1;
            blank = c.end.ensures.object;
          };
      ended = λ m a stands id is.
          let valid = stands.valid in
          let s = stands.paired in
          let e = ends_now h f.present f.records f.leftovers c.self.invariant b it n leads m a valid (subst (λ (v : HeapView). IsPaired m a v.heap) (sym c.self.view_is) s) unused id is in
          (e.0, e.1 ∙ sym number);
      address = ap (λ (v : HeapView). address_of v.heap n) (sym c.self.view_is) ∙ (leads ∙ ap Some (sym number));
      places =
          ap (λ (v : HeapView). places_of v.heap.objects) c.end.ensures.parts
          ∙ (map-set is_some c.unlink.new.self.heap.objects b None
          ∙ (ap₂ (λ (xs : List Bool) (i : ℕ). set xs i false)
          (ap (λ (v : HeapView). places_of v.heap.objects) c.unlink.ensures ∙ (places_changed h.objects b (without_back n) ∙ ap (λ (v : HeapView). places_of v.heap.objects) c.self.view_is))
          (sym number)));
    }
