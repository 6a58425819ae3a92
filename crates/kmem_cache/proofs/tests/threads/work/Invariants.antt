use Rattle.kmem_cache.specs.Seats.{IsCacheSeat}
use Rattle.kmem_cache.proofs.tests.threads.work.Given as goal

abbrev pub invariant-loop-round : goal.invariant-loop-round
invariant-loop-round g l = IsCacheSeat l.cache l.seat
