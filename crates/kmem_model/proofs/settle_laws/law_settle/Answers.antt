use Rattle.kmem_model.proofs.SettleEnds.{settle_ends, settle_leaves, settle_stays}
use Rattle.kmem_model.proofs.settle_laws.law_settle.Goals as goal

pub returns-clause-ends : goal.returns-clause-ends
returns-clause-ends c = λ stage whole. settle_ends stage whole

pub returns-clause-leaves : goal.returns-clause-leaves
returns-clause-leaves c = λ n stage result whole e. settle_leaves n stage result whole e

pub returns-clause-stays : goal.returns-clause-stays
returns-clause-stays c = λ n k stage result e. settle_stays n k stage result e
