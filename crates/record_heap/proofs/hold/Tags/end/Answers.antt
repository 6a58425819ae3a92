use Rattle.std.proofs.Common.{ℕ, ◌≡◌, ◌<◌, Option, Some, None, List, length, get_or, set, arith, sym, ap, ap₂, ◌∙◌}
use Rattle.std.proofs.Math.Seq.{map-set_same}
use Rattle.std.proofs.lemmas.Option.{slice_get_within}
use Rattle.std.proofs.lemmas.List.{length-map}
use Rattle.atomic_table.specs.Seated.{TableId}
use Rattle.kmem_buf.specs.Stubs.{StubState}
use Rattle.kmem_model.specs.Records.{tag_place}
use Rattle.record_heap.specs.Tags.{TagsState}
use Rattle.record_heap.specs.View.{HoldState}
use Rattle.record_heap.proofs.Stubs.{tag_says, ended, stub_of}
use Rattle.record_heap.proofs.hold.Tags.end.Goals as goal

pub index_mut-stub-requires : goal.index_mut-stub-requires
index_mut-stub-requires c =
    let h = c.hold.inside in
    let within = slice_get_within c.args.self.now.stubs (tag_place c.args.hold.worker c.args.hold.tag) c.args.hold.home c.requires in
    omega (arith, within, c.place_of-place.ensures.place, ap (λ (t : TagsState). length t.stubs) c.self.view_is, length-map c.self.inside.stubs.items (λ (s : StubState). s.home), ap (λ (v : HoldState). tag_place v.worker v.tag) c.hold.view_is, c.self.inside.stubs.ok.0)

pub redeem-requires : goal.redeem-requires
redeem-requires c =
    let h = c.hold.inside in
    let f = c.self.inside in
    let place = c.place_of-place.result in
    let is : place ≡ tag_place c.args.hold.worker c.args.hold.tag = c.place_of-place.ensures.place ∙ ap (λ (v : HoldState). tag_place v.worker v.tag) c.hold.view_is in
    ap (λ (v : HoldState). v.home) c.hold.view_is
    ∙ (stub_of f.stubs.items c.args.self.now.stubs place (tag_place c.args.hold.worker c.args.hold.tag) c.args.hold.home c.index_mut-stub.result.now (ap (λ (t : TagsState). t.stubs) c.self.view_is) is c.requires c.index_mut-stub.ensures.value)

pub index_mut-requires : goal.index_mut-requires
index_mut-requires c =
    let within = slice_get_within c.args.self.now.stubs (tag_place c.args.hold.worker c.args.hold.tag) c.args.hold.home c.requires in
    omega (arith, within, c.place_of-place.ensures.place, ap (λ (t : TagsState). length t.stubs) c.self.view_is, length-map c.self.inside.stubs.items (λ (s : StubState). s.home), ap (λ (v : HoldState). tag_place v.worker v.tag) c.hold.view_is, c.self.invariant.size, c.self.inside.places.ok.0)

pub invariant_of-self : goal.invariant_of-self
invariant_of-self c =
    let f = c.self.inside in
    let within = slice_get_within c.args.self.now.stubs (tag_place c.args.hold.worker c.args.hold.tag) c.args.hold.home c.requires in
    let low : c.place_of-place.result < length f.places.items =
    omega (arith, within, c.place_of-place.ensures.place, ap (λ (t : TagsState). length t.stubs) c.self.view_is, length-map f.stubs.items (λ (s : StubState). s.home), ap (λ (v : HoldState). tag_place v.worker v.tag) c.hold.view_is, c.self.invariant.size) in
    ended f.stubs.items f.places.items c.self.invariant c.place_of-place.result low c.redeem.new.self c.redeem.ensures.ended

pub returns-clause-was : goal.returns-clause-was
returns-clause-was c =
    let f = c.self.inside in
    let h = c.hold.inside in
    let place = c.place_of-place.result in
    let within = slice_get_within c.args.self.now.stubs (tag_place c.args.hold.worker c.args.hold.tag) c.args.hold.home c.requires in
    let is : place ≡ tag_place c.args.hold.worker c.args.hold.tag = c.place_of-place.ensures.place ∙ ap (λ (v : HoldState). tag_place v.worker v.tag) c.hold.view_is in
    let low : place < length f.places.items =
    omega (arith, within, is, ap (λ (t : TagsState). length t.stubs) c.self.view_is, length-map f.stubs.items (λ (s : StubState). s.home), c.self.invariant.size) in
    ap₂ (λ (xs : List (Option ℕ)) (n : ℕ). get_or xs n None) (sym (ap (λ (t : TagsState). t.tags) c.self.view_is)) (sym is)
    ∙ (tag_says f.stubs.items f.places.items c.self.invariant place low c.index_mut-stub.result.now h.worker h.tag h.address c.index_mut-stub.ensures.value
    (ap (λ s. s.issued) c.redeem.ensures.was) (ap (λ s. s.facts) c.redeem.ensures.was ∙ c.hold.invariant.0)
    ∙ ap (λ (v : HoldState). Some v.address) c.hold.view_is)

pub returns-clause-tags : goal.returns-clause-tags
returns-clause-tags c =
    let f = c.self.inside in
    let place = c.place_of-place.result in
    let is : place ≡ tag_place c.args.hold.worker c.args.hold.tag = c.place_of-place.ensures.place ∙ ap (λ (v : HoldState). tag_place v.worker v.tag) c.hold.view_is in
    ap₂ (λ (homes : List TableId) (n : ℕ). record { tags = set f.places.items n None; stubs = homes })
    (map-set_same (λ (s : StubState). s.home) f.stubs.items place c.redeem.new.self c.index_mut-stub.result.now
    (c.redeem.ensures.home ∙ ap (λ s. s.home) c.index_mut-stub.ensures.value))
    is
    ∙ ap (λ (s : TagsState). record s { tags = set s.tags (tag_place c.args.hold.worker c.args.hold.tag) None }) c.self.view_is
