use Rattle.std.proofs.Common.{◌+◌, ◌<◌, length, drop, ◌∙◌, arith}
use Rattle.kmem_model.specs.Report.{slab_texts}
use Rattle.kmem_report.proofs.Left.{one_more, front_more, next_slab}
use Rattle.kmem_report.proofs.report.write_slabs.Goals as goal

pub returns-in_err-write_slab-clause-front : goal.returns-in_err-write_slab-clause-front
returns-in_err-write_slab-clause-front g c =
    let slabs = c.args.cache.now.state.slabs in
    let small : c.loop-slab.slab < length slabs = omega arith in
    front_more _ _ _ _ _ _ _ c.loop-slab.invariant.left (next_slab slabs c.loop-slab.slab small) c.in_err-write_slab.ensures.front

pub loop-slab-preserved : goal.loop-slab-preserved
loop-slab-preserved g c =
    let slabs = c.args.cache.now.state.slabs in
    let small : c.loop-slab.slab < length slabs = omega arith in
    record {
      faults = c.in_ok-write_slab.ensures.counted ∙ c.loop-slab.invariant.faults;
      left = one_more _ _ _ _ _ _ (slab_texts (c.loop-slab.slab + 1) (drop (c.loop-slab.slab + 1) slabs)) c.loop-slab.invariant.left (next_slab slabs c.loop-slab.slab small) c.in_ok-write_slab.ensures.whole;
    }
