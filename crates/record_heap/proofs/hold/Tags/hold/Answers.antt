use Rattle.std.proofs.Common.{ℕ, ◌<◌, Option, Some, None, List, length, get_or, set, arith, sym, ap, ap₂, refl, ◌∙◌}
use Rattle.std.proofs.Math.Seq.{map-set_same}
use Rattle.std.proofs.lemmas.Option.{slice_get-get_or}
use Rattle.std.proofs.lemmas.List.{length-map, get_or-map}
use Rattle.atomic_table.specs.Seated.{TableId}
use Rattle.kmem_buf.specs.Homes.{stub_homes}
use Rattle.kmem_buf.specs.Stubs.{StubState}
use Rattle.kmem_model.specs.Records.{tag_place}
use Rattle.record_heap.specs.Tags.{TagsState}
use Rattle.record_heap.proofs.Stubs.{free_says, begun}
use Rattle.record_heap.proofs.hold.Tags.hold.Goals as goal

pub issue-requires : goal.issue-requires
issue-requires c =
    let f = c.self.inside in
    let place = c.place_of-place.result in
    let low : place < length f.places.items = omega (arith, c.requires.range, c.place_of-place.ensures.place, ap (λ (t : TagsState). length t.tags) c.self.view_is) in
    free_says f.stubs.items f.places.items c.self.invariant place low c.index_mut-stub.result.now c.index_mut-stub.ensures.value
    (ap₂ (λ (xs : List (Option ℕ)) (n : ℕ). get_or xs n None) (ap (λ (t : TagsState). t.tags) c.self.view_is) c.place_of-place.ensures.place ∙ c.requires.idle)

pub invariant_of-self : goal.invariant_of-self
invariant_of-self c =
    let f = c.self.inside in
    let place = c.place_of-place.result in
    let low : place < length f.places.items = omega (arith, c.requires.range, c.place_of-place.ensures.place, ap (λ (t : TagsState). length t.tags) c.self.view_is) in
    begun f.stubs.items f.places.items c.self.invariant place low c.issue.new.self c.args.worker c.args.tag c.args.address c.place_of-place.ensures.place c.requires.worker (omega (arith, c.number.ensures.small, c.number.ensures.is))
    (ap (λ s. s.issued) c.issue.ensures.stub)
    (ap (λ s. s.facts) c.issue.ensures.stub ∙ rw (c.from.ensures, c.from-2.ensures, c.from-3.ensures, c.number.ensures.is) refl)

pub returns-clause-tags : goal.returns-clause-tags
returns-clause-tags c =
    let f = c.self.inside in
    let place = c.place_of-place.result in
    ap₂ (λ (homes : List TableId) (n : ℕ). record { tags = set f.places.items n (Some c.args.address); stubs = homes })
    (map-set_same (λ (s : StubState). s.home) f.stubs.items place c.issue.new.self c.index_mut-stub.result.now
    (ap (λ s. s.home) c.issue.ensures.stub ∙ ap (λ s. s.home) c.index_mut-stub.ensures.value))
    c.place_of-place.ensures.place
    ∙ ap (λ (s : TagsState). record s { tags = set s.tags (tag_place c.args.worker c.args.tag) (Some c.args.address) }) c.self.view_is

pub returns-clause-home : goal.returns-clause-home
returns-clause-home c =
    let f = c.self.inside in
    let place = c.place_of-place.result in
    let stub = c.index_mut-stub.result.now in
    let low : place < length f.stubs.items = omega (arith, c.requires.range, c.place_of-place.ensures.place, ap (λ (t : TagsState). length t.tags) c.self.view_is, c.self.invariant.size) in
    rw (← c.self.view_is, ← c.place_of-place.ensures.place)
    (slice_get-get_or (stub_homes f.stubs.items) place stub.home (omega (arith, low, length-map f.stubs.items (λ (s : StubState). s.home)))
    ∙ ap Some
    (get_or-map (λ (s : StubState). s.home) f.stubs.items place stub stub.home low
    ∙ (ap (λ (s : StubState). s.home) (sym c.index_mut-stub.ensures.value) ∙ sym (ap (λ s. s.home) c.issue.ensures.slip))))
