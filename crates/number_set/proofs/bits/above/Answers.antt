use Rattle.number_set.proofs.Masks.{above_kept, above_gone}
use Rattle.number_set.proofs.bits.above.Goals as goal

pub returns-clause-kept : goal.returns-clause-kept
returns-clause-kept c = λ i after within. above_kept c.args.word c.args.place i c.requires after within

pub returns-clause-gone : goal.returns-clause-gone
returns-clause-gone c = λ i low. above_gone c.args.word c.args.place i c.requires low
