use Rattle.std.proofs.Common.{[], sym, subst, arith}
use Rattle.kmem_model.specs.Records.{no_records}
use Rattle.kmem_model.specs.Heap.{HeapState, IsPaired}
use Rattle.record_heap.specs.Kept.{IsHeapKept}
use Rattle.record_heap.proofs.Puts.{nothing_stands, nothing_kept}
use Rattle.record_heap.proofs.heap.RecordHeap.create.Goals as goal

pub returns-clause-stands : goal.returns-clause-stands
returns-clause-stands c =
    record {
      valid = c.law_step.ensures.start c.args.names c.args.workers;
      paired = subst (λ (k : HeapState). IsPaired (no_records c.args.names c.args.workers) [] k) (sym c.in_ok-create.ensures.heap) (nothing_stands c.args.names c.args.workers c.args.buffers);
    }

pub invariant_of-result : goal.invariant_of-result
invariant_of-result c = subst (λ k. IsHeapKept k 0 0 0) (sym c.in_ok-create.ensures.heap) (nothing_kept c.args.names c.args.workers c.args.buffers (omega (arith, c.requires.names)) c.requires.workers.1 c.requires.buffers.1)
