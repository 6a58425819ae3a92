use Rattle.std.proofs.Common.{◌≡◌, ◌<◌, ℕ, false, not}
use Rattle.kmem_model.specs.CacheState.{slab_at, is_out_on}
use Rattle.slab_list.proofs.list.SlabList.least_free.Given as goal

abbrev pub invariant-loop-index : goal.invariant-loop-index
invariant-loop-index g l = (k : ℕ) → k < l.index → not (is_out_on (slab_at l.self.slabs l.fn.slab) k) ≡ false
