use Rattle.kmem_model.proofs.CacheNext.{alloc_or_full_law}
use Rattle.kmem_model.proofs.laws.law_alloc_or_full.Goals as goal

pub returns : goal.returns
returns c = λ sizes history s some reaches. alloc_or_full_law sizes.slabs sizes.chunks sizes.limit history s some reaches
