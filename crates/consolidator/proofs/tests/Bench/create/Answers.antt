use Rattle.std.proofs.Common.{ap, sym, ◌∙◌, length, arith}
use Rattle.kmem_model.specs.Heap.{HeapState}
use Rattle.kmem_model.specs.One.{one_start}
use Rattle.consolidator.proofs.tests.Bench.create.Goals as goal

pub invariant_of-result : goal.invariant_of-result
invariant_of-result c =
    record {
      home = c.in_ok-heap.ensures.heap.1 ∙ c.home.ensures;
      cells = c.in_ok-cache.ensures.home.0 ∙ sym (ap (λ (h : HeapState). length h.objects) c.in_ok-heap.ensures.heap.0);
      names = ap (λ (h : HeapState). length h.names) c.in_ok-heap.ensures.heap.0;
      tags = ap (λ (h : HeapState). length h.tags) c.in_ok-heap.ensures.heap.0;
      state = one_start 6 8 48;
      stands = c.law_one_step.ensures.start 6 8 48 c.in_ok-heap.heap.heap (omega arith) (ap (λ (h : HeapState). h.objects) c.in_ok-heap.ensures.heap.0) c.in_ok-heap.ensures.stands;
      same = c.in_ok-cache.ensures.state;
    }
