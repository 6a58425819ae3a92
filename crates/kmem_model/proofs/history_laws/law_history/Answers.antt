use Rattle.kmem_model.proofs.Legal.{map_after-append, legal-append}
use Rattle.kmem_model.proofs.history_laws.law_history.Goals as goal

pub returns-clause-legal : goal.returns-clause-legal
returns-clause-legal c = λ map front rest. legal-append map front rest

pub returns-clause-after : goal.returns-clause-after
returns-clause-after c = λ map front rest. map_after-append map front rest
