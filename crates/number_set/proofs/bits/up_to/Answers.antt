use Rattle.number_set.proofs.Masks.{up_to_kept, up_to_gone}
use Rattle.number_set.proofs.bits.up_to.Goals as goal

pub returns-clause-kept : goal.returns-clause-kept
returns-clause-kept c = λ i low. up_to_kept c.args.word c.args.place i c.requires low

pub returns-clause-gone : goal.returns-clause-gone
returns-clause-gone c = λ i after. up_to_gone c.args.word c.args.place i c.requires after
