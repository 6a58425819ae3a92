use Rattle.std.proofs.Common.{◌≡◌, ◌≤◌, [], replicate, vec_capacity}
use Rattle.depot.proofs.shared_depot.empty_magazines.Given as goal

abbrev pub invariant-loop : goal.invariant-loop
invariant-loop g l = (l.magazines.items ≡ replicate l.counter []) × (l.places ≤ vec_capacity l.magazines)
