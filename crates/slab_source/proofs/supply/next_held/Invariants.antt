use Rattle.slab_source.specs.Source.{NoneBelow}
use Rattle.slab_source.proofs.supply.next_held.Given as goal

abbrev pub invariant-loop-slab : goal.invariant-loop-slab
invariant-loop-slab l = NoneBelow l.held l.slab
