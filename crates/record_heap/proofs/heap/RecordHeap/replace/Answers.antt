use Rattle.std.proofs.Common.{arith, ◌≡◌, Option, Some, sym, ap, ap₂, ◌∙◌, subst}
use Rattle.kmem_model.specs.Records.{id_of}
use Rattle.kmem_model.specs.Heap.{Object, HeapState, IsPaired, address_of, places_of}
use Rattle.record_heap.specs.View.{HeapView}
use Rattle.record_heap.specs.Kept.{IsHeapKept}
use Rattle.kmem_text.specs.declared.command.Reply.{Reply}
use Rattle.kmem_text.specs.declared.command.Reply.TheVariants.{Was}
use Rattle.kmem_model.specs.RecordStep.{put_step}
use Rattle.kmem_buf.specs.Buffers.{BufState}
use Rattle.record_heap.specs.declared.heap.put.PutEnd.TheVariants.{Replied}
use Rattle.record_heap.specs.Objects.{with_value}
use Rattle.record_heap.proofs.Steps.{of_name, value_there, valued_kept, places_changed}
use Rattle.record_heap.proofs.Holds.{put_stands}
use Rattle.record_heap.proofs.Puts.{was_put}
use Rattle.record_heap.proofs.Sizes.{names_size, address_below}
use Rattle.record_heap.proofs.heap.RecordHeap.replace.Goals as goal

pub value-old-requires : goal.value-old-requires
value-old-requires c =
    let f = c.self.inside in
    let h = f.parts.heap in
    let leads : address_of h c.args.name.0 ≡ Some c.args.b = ap (λ (v : HeapView). address_of v.heap c.args.name.0) c.self.view_is ∙ c.requires in
    value_there h c.args.b (of_name h f.present f.records f.leftovers c.self.invariant c.args.name.0 c.args.b leads)

pub invariant_of-self : goal.invariant_of-self
invariant_of-self c =
    let f = c.self.inside in
    let h = f.parts.heap in
    let leads : address_of h c.args.name.0 ≡ Some c.args.b = ap (λ (v : HeapView). address_of v.heap c.args.name.0) c.self.view_is ∙ c.requires in
    let it = of_name h f.present f.records f.leftovers c.self.invariant c.args.name.0 c.args.b leads in
    subst (λ (k : HeapState). IsHeapKept k f.present f.records f.leftovers) (sym (ap (λ (v : HeapView). v.heap) c.set_value.ensures))
    (valued_kept h f.present f.records f.leftovers c.self.invariant c.args.b it c.args.value)

pub returns-clause-put : goal.returns-clause-put
returns-clause-put c =
    let f = c.self.inside in
    let h = f.parts.heap in
    let n = c.args.name.0 in
    let b = c.args.b in
    let leads : address_of h n ≡ Some b = ap (λ (v : HeapView). address_of v.heap n) c.self.view_is ∙ c.requires in
    let it = of_name h f.present f.records f.leftovers c.self.invariant n b leads in
    record {
      back = (c.value-old.result, ap (λ (o : Option (BufState Object)). Replied (Was c.value-old.result) o) c.offered.ensures);
      reply = λ m a stands.
          let valid = stands.valid in
          let s = stands.paired in
          ap₂ (λ (q : Reply) (o : Option (BufState Object)). Replied q o)
          (was_put m a h valid (subst (λ (v : HeapView). IsPaired m a v.heap) (sym c.self.view_is) s) n b c.args.value c.value-old.result leads c.value-old.ensures) c.offered.ensures;
      stands = λ m a stands.
          let valid = stands.valid in
          let s = stands.paired in
          record {
            valid = c.law_step.ensures.put m n c.args.value valid (omega (arith, address_below c.args.self.now.heap n b c.requires, names_size m a c.args.self.now.heap s));
            paired =
                subst (λ (k : HeapState). IsPaired (put_step m n c.args.value (id_of m n)).map a k) (sym (ap (λ (v : HeapView). v.heap) c.set_value.ensures))
                (put_stands h f.present f.records f.leftovers c.self.invariant b it m a valid (subst (λ (v : HeapView). IsPaired m a v.heap) (sym c.self.view_is) s) n leads c.args.value);
          };
      places =
          ap (λ (v : HeapView). places_of v.heap.objects) c.set_value.ensures
          ∙ (places_changed h.objects b (with_value c.args.value) ∙ ap (λ (v : HeapView). places_of v.heap.objects) c.self.view_is);
    }
