use Rattle.kmem_model.proofs.CacheNext.{begin_or_idle, at_most_one_begin}
use Rattle.kmem_model.proofs.laws.law_begin_or_idle.Goals as goal

pub returns-clause-one : goal.returns-clause-one
returns-clause-one c = λ sizes history s reaches. begin_or_idle s

pub returns-clause-at_most_one : goal.returns-clause-at_most_one
returns-clause-at_most_one c = λ sizes history s reaches. at_most_one_begin s
