use Rattle.std.proofs.Common.{ℕ, None, Option, length, sym, ap, ◌∙◌}
use Rattle.std.proofs.lemmas.List.{length-replicate}
use Rattle.kmem_buf.specs.Homes.{Homes, cell_homes}
use Rattle.kmem_model.specs.Heap.{HeapState, Object}
use Rattle.record_heap.proofs.tests.Bench.create.Goals as goal

pub invariant_of-result : goal.invariant_of-result
invariant_of-result c =
    let made = c.in_ok-create.ensures.heap in
    record {
      names = ap (λ (h : HeapState). length h.names) made.0 ∙ length-replicate {A = Option ℕ} 200000 None;
      tags = ap (λ (h : HeapState). length h.tags) made.0 ∙ length-replicate {A = Option ℕ} 16 None;
      objects = ap (λ (h : HeapState). length h.objects) made.0 ∙ length-replicate {A = Option Object} 4 None;
      celled = ap cell_homes (sym c.row.view_is) ∙ sym (ap (λ (h : Homes). h.cells) c.of-home.ensures) ∙ sym (ap (λ (h : Homes). h.cells) made.1);
      held = tt;
    }
