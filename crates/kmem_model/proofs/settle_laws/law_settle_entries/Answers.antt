use Rattle.kmem_model.proofs.SettleEntries.{settle_has, ends_are, none_gone}
use Rattle.kmem_model.proofs.settle_laws.law_settle_entries.Goals as goal

pub returns-clause-entries : goal.returns-clause-entries
returns-clause-entries c = λ stage course whole e. settle_has stage course whole e

pub returns-clause-ends : goal.returns-clause-ends
returns-clause-ends c = λ is moves. ends_are is moves

pub returns-clause-none_gone : goal.returns-clause-none_gone
returns-clause-none_gone c = λ moves. none_gone moves
