use Rattle.std.proofs.Common.{ℕ, Option, List, Some, set, ap, ◌∙◌}
use Rattle.record_heap.specs.View.{HeapView}
use Rattle.record_heap.specs.Objects.{with_back}
use Rattle.record_heap.specs.Changes.{linked}
use Rattle.record_heap.proofs.Shelved.{view_of, changed_in}
use Rattle.record_heap.proofs.parts.Parts.link.Goals as goal

pub returns : goal.returns
returns c =
    let f = c.self.inside in
    ap (λ (names : List (Option ℕ)). view_of names f.tags c.put.new.self) c.lead.ensures
    ∙ (changed_in (set f.names c.args.name.0 (Some c.args.b)) f.tags f.shelf c.take-buf.new.self c.put.new.self c.args.b c.take-buf.result.number (with_back c.args.name.0) c.take-buf.result.object c.object_mut.result.now c.add_name.new.self
    c.take-buf.ensures.shelf c.take-buf.ensures.number c.put.ensures.shelf c.take-buf.ensures.object c.object_mut.ensures.value c.add_name.ensures
    ∙ ap (λ (v : HeapView). record v { heap = linked v.heap c.args.name.0 c.args.b }) c.self.view_is)
