use Rattle.kmem_model.proofs.SettleFewest.{settle_fewest}
use Rattle.kmem_model.proofs.settle_laws.law_fewest.Goals as goal

pub returns : goal.returns
returns c = λ n stage result whole movable e. settle_fewest n stage result whole movable e
