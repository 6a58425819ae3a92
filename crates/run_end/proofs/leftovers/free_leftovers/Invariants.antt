use Rattle.std.proofs.Common.{◌≡◌, ◌+◌, count_by, cond}
use Rattle.kmem_model.specs.Heap.{places_of}
use Rattle.kmem_model.specs.One.{OneState}
use Rattle.run_end.specs.Ends.{StandTogether}
use Rattle.run_end.proofs.Within.{IsFreeing}
use Rattle.run_end.proofs.leftovers.free_leftovers.Given as goal

-- once there is none more, none is left
abbrev pub invariant-freeing : goal.invariant-freeing
invariant-freeing l = record {
  stand : (s : OneState) × StandTogether s l.cache l.heap;
  home : (l.heap.home ≡ l.fn.heap.home) × (l.cache.home ≡ l.fn.cache.home);
  freeing : (s : OneState) → StandTogether s l.fn.cache l.fn.heap → IsFreeing s l.fn.cache l.fn.heap l.cache l.heap l.more;
}

abbrev pub decreases-freeing : goal.decreases-freeing
decreases-freeing l = count_by (λ x. x) (places_of l.heap.heap.objects) + cond l.more 1 0
