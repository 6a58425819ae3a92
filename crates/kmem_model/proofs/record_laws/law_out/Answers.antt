use Rattle.kmem_model.proofs.Outs.{out_after_alloc, out_after_free}
use Rattle.kmem_model.proofs.record_laws.law_out.Goals as goal

pub returns-clause-alloc : goal.returns-clause-alloc
returns-clause-alloc c = λ s t n b whole below e. out_after_alloc s t n b whole below e

pub returns-clause-free : goal.returns-clause-free
returns-clause-free c = λ s t n b whole e. out_after_free s t n b whole e
