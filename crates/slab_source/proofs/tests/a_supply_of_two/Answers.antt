use Rattle.std.proofs.Common.{◌≡◌, ℕ, false, Option, Some, None, MatchOption, ap, ◌∙◌, arith}
use Rattle.std.specs.FinSet as fin
use Rattle.std.specs.FinSet.{members}
use Rattle.std.proofs.lemmas.Bool.Decides.{nat_tests}
use Rattle.slab_source.specs.Source.{SourceState}
use Rattle.slab_source.proofs.tests.a_supply_of_two.Goals as goal

-- what isn't held is not held after one more is taken, or none
still_out : (o : Option ℕ) (a b : SourceState) (slab : ℕ) → MatchOption o (b ≡ a) (λ n. b ≡ record { slabs = a.slabs; held = fin.remove a.held n }) → fin.contains a.held slab ≡ false →
    fin.contains b.held slab ≡ false
still_out None a b slab e out = ap (λ s. fin.contains s.held slab) e ∙ out
still_out (Some n) a b slab e out = ap (λ s. fin.contains s.held slab) e ∙ grind (arith, members, nat_tests)

pub give-requires-clause-apart : goal.give-requires-clause-apart
give-requires-clause-apart g c =
    let before = c.take-2.new.self in let e = c.in-Some.ensures in
    still_out c.take-third.result before c.take-third.new.self c.in-Some.slab c.take-third.ensures.taken (ap (λ s. fin.contains s.held c.in-Some.slab) e.taken ∙ grind (arith, members, nat_tests))
