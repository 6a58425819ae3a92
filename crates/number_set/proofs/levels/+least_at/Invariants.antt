use Rattle.std.proofs.Common.{◌-◌, length}
use Rattle.number_set.proofs.levels.+least_at.Given as goal

abbrev pub decreases-least_at : goal.decreases-least_at
decreases-least_at l = length l.levels.now - l.level
