use Rattle.std.proofs.Common.{◌≡◌, ◌+◌, count_by, cond}
use Rattle.kmem_model.specs.Heap.{places_of}
use Rattle.kmem_model.specs.One.{OneState}
use Rattle.run_one.specs.Bench.{StandsAt, Stands}
use Rattle.run_one.proofs.Within.{IsFreeing}
use Rattle.run_one.proofs.bench.Bench.free_leftovers.Given as goal

-- once there is none more, none is left
abbrev pub invariant-freeing : goal.invariant-freeing
invariant-freeing l = record {
  stands : Stands l.self;
  settled : l.self.settled ≡ l.fn.self.settled;
  freeing : (s : OneState) → StandsAt s l.fn.self → IsFreeing s l.self l.more;
}

abbrev pub decreases-freeing : goal.decreases-freeing
decreases-freeing l = count_by (λ x. x) (places_of l.self.heap.heap.objects) + cond l.more 1 0
