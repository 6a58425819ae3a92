use Rattle.std.proofs.Common.{◌≡◌, false, below_more, ◌∙◌}
use Rattle.slab_source.specs.Source.{bit_at}
use Rattle.slab_source.proofs.Places.{bit_at-get}
use Rattle.slab_source.proofs.supply.next_held.Goals as goal

pub returns-then-held-slab : goal.returns-then-held-slab
returns-then-held-slab c = (c.loop-slab-test.true, bit_at-get c.args.held.now c.loop-slab.slab ∙ c.if-held-slab.true, c.loop-slab.invariant)

pub loop-slab-preserved : goal.loop-slab-preserved
loop-slab-preserved c = below_more (λ k. bit_at c.args.held.now k ≡ false) c.loop-slab.slab c.loop-slab.invariant (bit_at-get c.args.held.now c.loop-slab.slab ∙ c.if-held-slab.false)
