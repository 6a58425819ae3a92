use Rattle.kmem_model.proofs.SettleMarks.{rest_by_counts}
use Rattle.kmem_model.proofs.settle_laws.law_rest_marked.Goals as goal

pub returns : goal.returns
returns c = λ slabs. rest_by_counts slabs
