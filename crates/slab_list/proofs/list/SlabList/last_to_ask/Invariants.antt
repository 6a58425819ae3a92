use Rattle.std.proofs.Common.{◌≡◌, ◌+◌, ℕ, false, Option, Some, None, is_some, slice_index_or}
use Rattle.kmem_model.specs.CacheOrder.{least_to_move}
use Rattle.slab_list.specs.Slabs.{mode_of}
use Rattle.slab_list.proofs.Orders.{Left}
use Rattle.slab_list.proofs.list.SlabList.last_to_ask.Given as goal

abbrev pub invariant-loop-last : goal.invariant-loop-last
invariant-loop-last g l =
    let s = l.initial.self in
    (l.self ≡ s) × Left s (λ i. is_some (least_to_move s.chunks l.fn.rule.numer (mode_of l.fn.rule.desperate) (λ b. slice_index_or s.skip b false) s.slabs i)) l.last

abbrev left_over : Option ℕ → ℕ
left_over None = 0
left_over (Some p) = p + 1

abbrev pub decreases-loop-last : goal.decreases-loop-last
decreases-loop-last g l = left_over l.last
