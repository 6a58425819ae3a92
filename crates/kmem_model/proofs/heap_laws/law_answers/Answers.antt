use Rattle.kmem_model.proofs.OneSettles.{answer_is}
use Rattle.kmem_model.proofs.heap_laws.law_answers.Goals as goal

pub returns : goal.returns
returns c = λ s h b. answer_is s h b
