use Rattle.std.proofs.Common.{All, IfSome}
use Rattle.object_cache.proofs.tests.Bench.create.Given as goal

abbrev pub invariant-loop : goal.invariant-loop
invariant-loop l = All (λ o. IfSome o (λ buf. ⊥)) l.out.items
