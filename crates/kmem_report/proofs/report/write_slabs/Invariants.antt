use Rattle.std.proofs.Common.{◌≡◌, drop}
use Rattle.kmem_model.specs.Report.{slab_texts}
use Rattle.kmem_report.proofs.Left.{IsLeft}
use Rattle.kmem_report.proofs.report.write_slabs.Given as goal

-- the lines of the slabs from this one on are left
abbrev pub invariant-loop-slab : goal.invariant-loop-slab
invariant-loop-slab g l = record {
  faults : g.W.Sink.faults l.out ≡ g.W.Sink.faults l.fn.out;
  left : IsLeft (g.W.Sink.written l.fn.out) (g.W.Sink.written l.out) (slab_texts 0 l.cache.state.slabs) (slab_texts l.slab (drop l.slab l.cache.state.slabs));
}
