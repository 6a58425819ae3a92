use Rattle.kmem_model.proofs.OneSettles.{stage_is, settled_stands}
use Rattle.kmem_model.proofs.OneSteps.{freed_ends}
use Rattle.kmem_model.proofs.heap_laws.law_one_settle.Goals as goal

pub returns-clause-stage : goal.returns-clause-stage
returns-clause-stage c = λ s h. stage_is s h

pub returns-clause-settled : goal.returns-clause-settled
returns-clause-settled c = λ run h new course. settled_stands run h new course

pub returns-clause-freed : goal.returns-clause-freed
returns-clause-freed c = λ s h new t b. freed_ends s h new t b
