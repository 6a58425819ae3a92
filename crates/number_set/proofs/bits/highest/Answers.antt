use Rattle.number_set.proofs.Masks.{highest_there, highest_over}
use Rattle.number_set.proofs.bits.highest.Goals as goal

pub returns-clause-there : goal.returns-clause-there
returns-clause-there c = highest_there c.args.word c.requires c.ranges.word.fits

pub returns-clause-greatest : goal.returns-clause-greatest
returns-clause-greatest c = λ i after. highest_over c.args.word i c.requires c.ranges.word.fits after
