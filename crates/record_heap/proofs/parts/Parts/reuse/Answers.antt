use Rattle.std.proofs.Common.{ℕ, Option, Some, None, List, set, ap, ap₂, ◌∙◌}
use Rattle.std.proofs.lemmas.List.{set-set}
use Rattle.kmem_model.specs.Heap.{Object}
use Rattle.record_heap.specs.Shelves.{ShelfState}
use Rattle.record_heap.specs.View.{HeapView}
use Rattle.record_heap.specs.Changes.{made, first_object}
use Rattle.record_heap.proofs.Shelved.{view_of}
use Rattle.record_heap.proofs.parts.Parts.reuse.Goals as goal

pub returns : goal.returns
returns c =
    let f = c.self.inside in
    let n = c.args.name.0 in
    c.make.ensures.parts
    ∙ (ap₂ (λ (t : ShelfState) (i : ℕ). record (view_of f.names f.tags t) { heap = made (view_of f.names f.tags t).heap n i c.args.value }) c.take-buf.ensures.shelf c.take-buf.ensures.number
    ∙ (ap (λ (objects : List (Option Object)). view_of (set f.names n (Some c.args.b)) f.tags (record { objects = objects; home = f.shelf.home })) (set-set f.shelf.objects c.args.b None (Some (first_object n c.args.value)))
    ∙ ap (λ (v : HeapView). record v { heap = made v.heap n c.args.b c.args.value }) c.self.view_is))
