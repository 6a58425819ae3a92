use Rattle.std.proofs.Common.{rules, get_or, Option, Some, None, IfSome}
use Rattle.object_cache.proofs.tests.Bench.create.Goals as goal

none_out : {X : Type 0} (P : X → Type 0) (o : Option X) → IfSome o (λ buf. ⊥) → IfSome o P
none_out P None h = h
none_out P (Some x) h = absurd h

pub invariant_of-result : goal.invariant_of-result
invariant_of-result c =
    (λ k d below. none_out _ (get_or c.loop.out.items k d) (c.loop.invariant k d below), search rules)
