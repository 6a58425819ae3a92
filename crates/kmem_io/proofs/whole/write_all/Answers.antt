use Rattle.std.proofs.Common.{◌∙◌, arith}
use Rattle.kmem_io.proofs.Pieces.{Appends-more, AppendsFront-kept, length-take_rest}
use Rattle.kmem_io.proofs.whole.write_all.Goals as goal

pub returns-in_err-at-clause-front : goal.returns-in_err-at-clause-front
returns-in_err-at-clause-front g c = AppendsFront-kept _ _ _ c.loop-at.at _ c.loop-at.invariant.written c.in_err-at.ensures.kept

pub loop-at-preserved : goal.loop-at-preserved
loop-at-preserved g c = record {
  within = omega (arith, c.in_ok-at.ensures.within, length-take_rest c.args.bytes.now c.loop-at.at);
  same_faults = c.in_ok-at.ensures.counted ∙ c.loop-at.invariant.same_faults;
  written = Appends-more _ _ _ c.loop-at.at c.in_ok-at.field-0 _ c.loop-at.invariant.written c.in_ok-at.ensures.appended;
}
