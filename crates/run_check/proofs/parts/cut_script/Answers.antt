use Rattle.std.proofs.Common.{arith}
use Rattle.run_check.proofs.CutParts.{cut_more}
use Rattle.run_check.proofs.parts.cut_script.Goals as goal

pub cutting-preserved : goal.cutting-preserved
cutting-preserved c =
    let cut = c.cut_line.ensures in
    record {
      small = omega (arith, cut.shorter, c.cutting.invariant.small);
      cut = cut_more c.args.bytes.now c.cutting.rest.now c.cut_line.result.1.now c.cut_line.result.0.now c.cutting.taken (c.begins_run.ensures.no c.cutting-test.true) cut.lines cut.shorter cut.behind cut.whole (c.begins_run.ensures.line c.cutting-test.true _ _ cut.lines) c.cutting.invariant.cut;
    }
