use Rattle.std.proofs.Common.{length, get_or, None, ap, ◌∙◌, arith}
use Rattle.run_one.proofs.Benches.{one_more_none, one_more_length}
use Rattle.run_one.proofs.bench.no_holds.Goals as goal

pub loop-place-preserved : goal.loop-place-preserved
loop-place-preserved c =
    record {
      size = omega (arith, ap length c.in_ok-push.ensures.items, one_more_length c.loop-place.holds.items, c.loop-place.invariant.size);
      none = λ n. ap (λ xs. get_or xs n None) c.in_ok-push.ensures.items ∙ one_more_none c.loop-place.holds.items n c.loop-place.invariant.none;
    }
