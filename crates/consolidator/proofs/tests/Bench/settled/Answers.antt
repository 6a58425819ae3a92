use Rattle.std.proofs.Common.{length, ap, sym, ◌∙◌}
use Rattle.kmem_model.specs.CacheState.{CacheState, is_out}
use Rattle.consolidator.proofs.tests.Bench.settled.Goals as goal

pub settle_records-tally-requires-clause-buffers : goal.settle_records-tally-requires-clause-buffers
settle_records-tally-requires-clause-buffers c =
    let kept = c.self.invariant in
    record {
      size = kept.stands.size ∙ ap (λ (s : CacheState). length s.asked) (sym kept.same);
      places = λ b. kept.stands.places b ∙ ap (λ (s : CacheState). is_out s b) (sym kept.same);
    }
