use Rattle.std.proofs.Common.{refl, arith}
use Rattle.kmem_text.proofs.Digits.{capped_more, digit_range}
use Rattle.kmem_text.proofs.number.capped_value.Goals as goal

pub loop-digit-preserved : goal.loop-digit-preserved
loop-digit-preserved c =
    let range = digit_range c.args.digits.now c.loop-digit.digit-index c.requires c.loop-digit-test.true in
    let more = capped_more c.args.digits.now c.loop-digit.digit-index _ c.loop-digit.value c.loop-digit-test.true refl range.0 range.1 c.loop-digit.invariant in
    omega (arith, more)
