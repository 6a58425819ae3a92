use Rattle.kmem_model.proofs.OneSettles.{stage_whole, stage_within, known_within, said_is, says_moved}
use Rattle.kmem_model.proofs.heap_laws.law_stage.Goals as goal

pub returns-clause-whole : goal.returns-clause-whole
returns-clause-whole c = λ cache h. stage_whole cache h

pub returns-clause-said : goal.returns-clause-said
returns-clause-said c = λ cache h b. said_is cache h b

pub returns-clause-moved : goal.returns-clause-moved
returns-clause-moved c = λ h from to said. says_moved h from to said

pub returns-clause-within : goal.returns-clause-within
returns-clause-within c = λ cache h. stage_within cache h

pub returns-clause-known : goal.returns-clause-known
returns-clause-known c = λ cache h b. known_within cache h b
