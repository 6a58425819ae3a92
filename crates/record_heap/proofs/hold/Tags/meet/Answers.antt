use Rattle.std.proofs.Common.{ℕ, ◌≡◌, ◌<◌, Option, Some, None, List, length, get_or, arith, sym, ap, ap₂, ◌∙◌}
use Rattle.std.proofs.lemmas.Option.{slice_get_within}
use Rattle.std.proofs.lemmas.List.{length-map}
use Rattle.kmem_buf.specs.Stubs.{StubState}
use Rattle.kmem_model.specs.Records.{tag_place}
use Rattle.record_heap.specs.Tags.{TagsState}
use Rattle.record_heap.specs.View.{HoldState}
use Rattle.record_heap.proofs.Stubs.{tag_says}
use Rattle.record_heap.proofs.hold.Tags.meet.Goals as goal

pub returns-clause-is : goal.returns-clause-is
returns-clause-is c =
    let f = c.self.inside in
    let h = c.hold.inside in
    let now = c.args.hold.now in
    let place = c.place_of.result in
    let within = slice_get_within c.args.self.now.stubs (tag_place now.worker now.tag) now.home c.requires in
    let is : place ≡ tag_place now.worker now.tag = c.place_of.ensures.place ∙ ap (λ (v : HoldState). tag_place v.worker v.tag) c.hold.view_is in
    let low : place < length f.places.items =
    omega (arith, within, is, ap (λ (t : TagsState). length t.stubs) c.self.view_is, length-map f.stubs.items (λ (s : StubState). s.home), c.self.invariant.size) in
    ap₂ (λ (xs : List (Option ℕ)) (n : ℕ). get_or xs n None) (sym (ap (λ (t : TagsState). t.tags) c.self.view_is)) (sym is)
    ∙ (tag_says f.stubs.items f.places.items c.self.invariant place low c.index_mut-stub.result.now h.worker h.tag h.address c.index_mut-stub.ensures.value
    (ap (λ s. s.issued) c.meet.ensures.issued) (ap (λ s. s.facts) c.meet.ensures.issued ∙ c.hold.invariant.0)
    ∙ ap (λ (v : HoldState). Some v.address) c.hold.view_is)
