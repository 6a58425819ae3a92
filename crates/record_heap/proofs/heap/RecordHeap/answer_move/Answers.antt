use Rattle.std.proofs.Common.{◌≡◌, ℕ, ◌-◌, ◌==◌, Option, None, [], ◌∷◌, sym, ap, ap₂, ◌∙◌, subst}
use Rattle.kmem_model.specs.Heap.{Object, HeapState, StandsFor, address_of, object_at, has_record, blank}
use Rattle.record_heap.specs.View.{HeapView}
use Rattle.record_heap.specs.Kept.{IsHeapKept}
use Rattle.std.specs.List.{list_any}
use Rattle.std.specs.Option.{option_map_or}
use Rattle.kmem_buf.specs.Buffers.{BufState}
use Rattle.kmem_buf.specs.Homes.{IsBufferOf}
use Rattle.kmem_model.specs.CacheOrder.{is_the}
use Rattle.kmem_model.specs.declared.cache_entry.Said.{Said}
use Rattle.kmem_model.specs.declared.cache_entry.Said.TheVariants as said
use Rattle.kmem_model.specs.Says.{answer_about, addresses_after, relocated}
use Rattle.kmem_answers.specs.Words.{said_of}
use Rattle.record_heap.specs.Changes.{names_in, with_object}
use Rattle.record_heap.proofs.Kept.{leftover_blank, some_is}
use Rattle.record_heap.proofs.Shelved.{all_two}
use Rattle.kmem_model.proofs.Heaps.{valued_used}
use Rattle.kmem_model.proofs.Relocates.{yes_is, need_is}
use Rattle.record_heap.proofs.Moved.{moved_kept}
use Rattle.record_heap.proofs.Puts.{without_kept}
use Rattle.record_heap.proofs.heap.RecordHeap.answer_move.Goals as goal

pub relocate-requires-clause-names : goal.relocate-requires-clause-names
relocate-requires-clause-names c = λ name.
    let f = c.self.inside in
    let h = f.parts.heap in
    let parts = c.show_empty-to.ensures.parts in
    let says : said.Yes ≡ answer_about (object_at h c.args.from) =
    ap said_of (sym c.in-Yes.is) ∙ (c.verdict.ensures ∙ ap (λ (v : HeapView). answer_about (object_at v.heap c.args.from)) parts) in
    let it = yes_is (object_at h c.args.from) says in
    ap (λ (v : HeapView). list_any (λ other. other == name) (names_in v.heap c.args.from)) parts
    ∙ (ap (λ (y : Option Object). list_any (λ other. other == name) (option_map_or (λ (q : Object). q.names) y [])) it.is
    ∙ ((c.self.invariant.tied.objects c.args.from it.o it.is).names name ∙ ap (λ (v : HeapView). is_the (address_of v.heap name) c.args.from) (sym parts)))

pub invariant_of-self : goal.invariant_of-self
invariant_of-self c =
    let f = c.self.inside in
    let h = f.parts.heap in
    let parts = c.show_empty-to.ensures.parts in
    let says : said.Yes ≡ answer_about (object_at h c.args.from) =
    ap said_of (sym c.in-Yes.is) ∙ (c.verdict.ensures ∙ ap (λ (v : HeapView). answer_about (object_at v.heap c.args.from)) parts) in
    let it = yes_is (object_at h c.args.from) says in
    let is : c.relocate.new.self.heap ≡ relocated h c.args.from c.args.to.number =
    ap (λ (v : HeapView). v.heap) c.relocate.ensures.parts ∙ ap₂ (λ (v : HeapView) (b : BufState Object). relocated v.heap c.args.from b.number) parts c.show_empty-to.ensures.buf in
    subst (λ (k : HeapState). IsHeapKept k f.present f.records f.leftovers) (sym is)
    (moved_kept h c.args.from c.args.to.number it.o it.is c.show_empty-to.ensures.empty c.show_empty-to.ensures.range
    f.present f.records f.leftovers c.self.invariant it.free (valued_used h c.args.from it.o (c.self.invariant.tied.objects c.args.from it.o it.is) it.has) (ap has_record it.is ∙ it.has))

pub invariant_of-self-in-DontNeed : goal.invariant_of-self-in-DontNeed
invariant_of-self-in-DontNeed c =
    let f = c.self.inside in
    let h = f.parts.heap in
    let parts = c.show_empty-to.ensures.parts in
    let says : said.DontNeed ≡ answer_about (object_at h c.args.from) =
    ap said_of (sym c.in-DontNeed.is) ∙ (c.verdict.ensures ∙ ap (λ (v : HeapView). answer_about (object_at v.heap c.args.from)) parts) in
    let is : c.take_out.new.self.heap ≡ with_object h c.args.from None =
    ap (λ (v : HeapView). v.heap) c.take_out.ensures.parts ∙ ap (λ (v : HeapView). with_object v.heap c.args.from None) parts in
    subst (λ (k : HeapState). IsHeapKept k f.present f.records (f.leftovers - 1)) (sym is)
    (without_kept h f.present f.records f.leftovers c.self.invariant c.args.from (need_is (object_at h c.args.from) says))

pub returns-in-Yes-clause-stands : goal.returns-in-Yes-clause-stands
returns-in-Yes-clause-stands c = λ m a s.
    let f = c.self.inside in
    let h = f.parts.heap in
    let parts = c.show_empty-to.ensures.parts in
    let says : said.Yes ≡ answer_about (object_at h c.args.from) =
    ap said_of (sym c.in-Yes.is) ∙ (c.verdict.ensures ∙ ap (λ (v : HeapView). answer_about (object_at v.heap c.args.from)) parts) in
    let is : c.relocate.new.self.heap ≡ relocated h c.args.from c.args.to.number =
    ap (λ (v : HeapView). v.heap) c.relocate.ensures.parts ∙ ap₂ (λ (v : HeapView) (b : BufState Object). relocated v.heap c.args.from b.number) parts c.show_empty-to.ensures.buf in
    let said_now : said.Yes ≡ answer_about (object_at c.args.self.now.heap c.args.from) = says ∙ ap (λ (v : HeapView). answer_about (object_at v.heap c.args.from)) c.self.view_is in
    subst (λ (x : Said). StandsFor m (addresses_after a c.args.from c.args.to.number x) c.relocate.new.self.heap) said_now
    (subst (λ (k : HeapState). StandsFor m (addresses_after a c.args.from c.args.to.number said.Yes) k) (sym is)
    (c.law_relocation.ensures.moved m a h c.args.from c.args.to.number (subst (λ (v : HeapView). StandsFor m a v.heap) (sym c.self.view_is) s)
    c.show_empty-to.ensures.empty c.show_empty-to.ensures.range (sym says)))

pub returns-in-DontNeed-clause-buffers : goal.returns-in-DontNeed-clause-buffers
returns-in-DontNeed-clause-buffers c =
    let f = c.self.inside in
    let h = f.parts.heap in
    let parts = c.show_empty-to.ensures.parts in
    let says : said.DontNeed ≡ answer_about (object_at h c.args.from) =
    ap said_of (sym c.in-DontNeed.is) ∙ (c.verdict.ensures ∙ ap (λ (v : HeapView). answer_about (object_at v.heap c.args.from)) parts) in
    let blank_there = leftover_blank h f.present f.records f.leftovers c.self.invariant c.args.from (need_is (object_at h c.args.from) says) in
    let cells = c.args.self.now.home.cells in (
      ap₂ (λ (x y : ℕ). x ∷ y ∷ []) c.take_out.ensures.buf.0 (ap (λ (b : BufState Object). b.number) c.show_empty-to.ensures.buf),
      all_two (λ (b : BufState Object). (b.object ≡ blank) × IsBufferOf cells b) c.take_out.result c.show_empty-to.result (
        some_is c.take_out.result.object blank (sym c.take_out.ensures.object ∙ (ap (λ (v : HeapView). object_at v.heap c.args.from) parts ∙ blank_there)),
        subst (λ (v : HeapView). IsBufferOf v.home.cells c.take_out.result) (parts ∙ c.self.view_is) c.take_out.ensures.buf.1,
      )
          (subst (λ (b : BufState Object). (b.object ≡ blank) × IsBufferOf cells b) (sym c.show_empty-to.ensures.buf) (c.requires.to.1, c.requires.to.0)),
    )

pub returns-in-DontNeed-clause-stands : goal.returns-in-DontNeed-clause-stands
returns-in-DontNeed-clause-stands c = λ m a s.
    let f = c.self.inside in
    let h = f.parts.heap in
    let parts = c.show_empty-to.ensures.parts in
    let says : said.DontNeed ≡ answer_about (object_at h c.args.from) =
    ap said_of (sym c.in-DontNeed.is) ∙ (c.verdict.ensures ∙ ap (λ (v : HeapView). answer_about (object_at v.heap c.args.from)) parts) in
    let is : c.take_out.new.self.heap ≡ with_object h c.args.from None =
    ap (λ (v : HeapView). v.heap) c.take_out.ensures.parts ∙ ap (λ (v : HeapView). with_object v.heap c.args.from None) parts in
    let said_now : said.DontNeed ≡ answer_about (object_at c.args.self.now.heap c.args.from) = says ∙ ap (λ (v : HeapView). answer_about (object_at v.heap c.args.from)) c.self.view_is in
    subst (λ (x : Said). StandsFor m (addresses_after a c.args.from c.args.to.number x) c.take_out.new.self.heap) said_now
    (subst (λ (k : HeapState). StandsFor m a k) (sym is)
    (c.law_relocation.ensures.unneeded m a h c.args.from (subst (λ (v : HeapView). StandsFor m a v.heap) (sym c.self.view_is) s) (sym says)))
