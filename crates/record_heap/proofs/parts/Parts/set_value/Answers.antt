use Rattle.std.proofs.Common.{ap, ◌∙◌}
use Rattle.record_heap.specs.View.{HeapView}
use Rattle.record_heap.specs.Objects.{with_value}
use Rattle.record_heap.specs.Changes.{valued}
use Rattle.record_heap.proofs.Shelved.{changed_in}
use Rattle.record_heap.proofs.parts.Parts.set_value.Goals as goal

pub returns : goal.returns
returns c =
    let f = c.self.inside in
    changed_in f.names f.tags f.shelf c.take-buf.new.self c.put.new.self c.args.b c.take-buf.result.number (with_value c.args.value) c.take-buf.result.object c.object_mut.result.now c.set_value.new.self
    c.take-buf.ensures.shelf c.take-buf.ensures.number c.put.ensures.shelf c.take-buf.ensures.object c.object_mut.ensures.value c.set_value.ensures
    ∙ ap (λ (v : HeapView). record v { heap = valued v.heap c.args.b c.args.value }) c.self.view_is
