use Rattle.std.proofs.Common.{Some, set, ap, ◌∙◌}
use Rattle.record_heap.specs.View.{HeapView}
use Rattle.kmem_model.specs.Records.{tag_place}
use Rattle.record_heap.specs.Objects.{held_more}
use Rattle.record_heap.specs.Changes.{tagged}
use Rattle.record_heap.specs.Tags.{TagsState}
use Rattle.record_heap.proofs.Shelved.{changed_in, view_of}
use Rattle.record_heap.proofs.parts.Parts.hold.Goals as goal

pub returns-clause-parts : goal.returns-clause-parts
returns-clause-parts c =
    let f = c.self.inside in
    let p = tag_place c.args.worker c.args.tag in
    ap (λ (t : TagsState). view_of f.names t c.put.new.self) c.hold-hold.ensures.tags
    ∙ (changed_in f.names (record f.tags { tags = set f.tags.tags p (Some c.args.b) }) f.shelf c.take-buf.new.self c.put.new.self c.args.b c.take-buf.result.number held_more c.take-buf.result.object c.object_mut.result.now c.add_hold.new.self
    c.take-buf.ensures.shelf c.take-buf.ensures.number c.put.ensures.shelf c.take-buf.ensures.object c.object_mut.ensures.value c.add_hold.ensures
    ∙ ap (λ (v : HeapView). record v { heap = tagged v.heap p c.args.b }) c.self.view_is)
