use Rattle.kmem_model.proofs.CacheSearch.{least_from_some, some_from_least, fails_from_none, none_from_fails, foremost_from_some, some_from_foremost, none_passes_from_none, none_from_none_passes}
use Rattle.kmem_model.proofs.CacheRanks.{comes_before-order, reversed-order}
use Rattle.kmem_model.specs.CacheOrder.{comes_before}
use Rattle.kmem_model.proofs.laws.law_order.Goals as goal

pub returns-clause-least : goal.returns-clause-least
returns-clause-least c = λ n k test. (least_from_some n test k, some_from_least n test k)

pub returns-clause-no_least : goal.returns-clause-no_least
returns-clause-no_least c = λ n test. (fails_from_none n test, none_from_fails n test)

pub returns-clause-foremost : goal.returns-clause-foremost
returns-clause-foremost c = λ n i test before order. (foremost_from_some n test before i, some_from_foremost n test before i order)

pub returns-clause-no_foremost : goal.returns-clause-no_foremost
returns-clause-no_foremost c = λ n test before order. (none_passes_from_none n test before order, none_from_none_passes n test before)

pub returns-clause-order : goal.returns-clause-order
returns-clause-order c = comes_before-order

pub returns-clause-reversed : goal.returns-clause-reversed
returns-clause-reversed c = λ slabs. reversed-order (comes_before slabs) (comes_before-order slabs)
