use Rattle.std.proofs.Common.{◌-◌, length}
use Rattle.number_set.proofs.levels.+put_at.Given as goal

abbrev pub decreases-put_at : goal.decreases-put_at
decreases-put_at l = length l.levels.now - l.level
