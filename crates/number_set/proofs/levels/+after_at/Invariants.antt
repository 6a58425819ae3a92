use Rattle.std.proofs.Common.{◌-◌, length}
use Rattle.number_set.proofs.levels.+after_at.Given as goal

abbrev pub decreases-after_at : goal.decreases-after_at
decreases-after_at l = length l.levels.now - l.level
