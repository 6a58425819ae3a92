use Rattle.std.proofs.Common.{◌≡◌, ◌<◌, ℕ, false, slice_index_or}
use Rattle.kmem_model.specs.CacheOrder.{can_move}
use Rattle.slab_list.specs.Slabs.{mode_of}
use Rattle.slab_list.proofs.list.SlabList.least_to_move.Given as goal

abbrev pub invariant-loop-place : goal.invariant-loop-place
invariant-loop-place g l =
    (k : ℕ) → k < l.place →
    can_move l.self.chunks l.fn.rule.numer (mode_of l.fn.rule.desperate) (λ b. slice_index_or l.self.skip b false) l.self.slabs l.fn.slab k ≡ false
