use Rattle.std.proofs.Common.{ap, ◌∙◌}
use Rattle.record_heap.specs.View.{HeapView}
use Rattle.record_heap.specs.Objects.{held_less}
use Rattle.record_heap.specs.Changes.{changed_at}
use Rattle.record_heap.proofs.Shelved.{changed_in}
use Rattle.record_heap.proofs.parts.Parts.hold_less.Goals as goal

pub returns : goal.returns
returns c =
    let f = c.self.inside in
    changed_in f.names f.tags f.shelf c.take-buf.new.self c.put.new.self c.args.b c.take-buf.result.number held_less c.take-buf.result.object c.object_mut.result.now c.remove_hold.new.self
    c.take-buf.ensures.shelf c.take-buf.ensures.number c.put.ensures.shelf c.take-buf.ensures.object c.object_mut.ensures.value c.remove_hold.ensures
    ∙ ap (λ (v : HeapView). record v { heap = changed_at v.heap c.args.b held_less }) c.self.view_is
