use Rattle.std.proofs.Common.{◌-◌, length}
use Rattle.number_set.proofs.levels.+before_at.Given as goal

abbrev pub decreases-before_at : goal.decreases-before_at
decreases-before_at l = length l.levels.now - l.level
