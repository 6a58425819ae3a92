use Rattle.number_set.proofs.Rising.{IsRising}
use Rattle.number_set.proofs.set.empty_levels.Given as goal

abbrev pub invariant-loop-level : goal.invariant-loop-level
invariant-loop-level l = IsRising l.all.items l._level l.levels l.count l.len
