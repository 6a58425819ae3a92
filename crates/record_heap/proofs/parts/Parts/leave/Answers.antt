use Rattle.std.proofs.Common.{Some, set, ap, ◌∙◌}
use Rattle.kmem_model.specs.Heap.{Object, blank}
use Rattle.record_heap.specs.View.{HeapView}
use Rattle.record_heap.specs.Changes.{with_object}
use Rattle.record_heap.proofs.Shelved.{put_back, view_of}
use Rattle.record_heap.proofs.parts.Parts.leave.Goals as goal

pub returns : goal.returns
returns c =
    let f = c.self.inside in
    ap (view_of f.names f.tags)
    (put_back f.shelf c.take-buf.new.self c.put.new.self c.args.b c.take-buf.result.number c.clear.new.self c.take-buf.ensures.shelf c.take-buf.ensures.number c.put.ensures.shelf)
    ∙ (ap (λ (o : Object). view_of f.names f.tags (record f.shelf { objects = set f.shelf.objects c.args.b (Some o) })) c.clear.ensures
    ∙ ap (λ (v : HeapView). record v { heap = with_object v.heap c.args.b (Some blank) }) c.self.view_is)
