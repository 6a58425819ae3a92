use Rattle.record_table.proofs.Held.{held_object, says_of, not_left, not_handed}
use Rattle.record_table.proofs.laws.law_held.Goals as goal

pub returns-clause-answers : goal.returns-clause-answers
returns-clause-answers c = λ m addresses h place b stands there. says_of h b (held_object m addresses h place b stands there)

pub returns-clause-leftover : goal.returns-clause-leftover
returns-clause-leftover c = λ m addresses h place b stands there. not_left h b (held_object m addresses h place b stands there)

pub returns-clause-del : goal.returns-clause-del
returns-clause-del c = λ m addresses old new name place b buf stands next out there. not_handed m addresses old new name place b buf stands next out there
