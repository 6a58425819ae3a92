use Rattle.std.proofs.Common.{length, ◌∙◌}
use Rattle.kmem_model.specs.CacheState.{slab_at}
use Rattle.kmem_model.specs.CacheOrder.{is_partial, comes_before}
use Rattle.slab_list.proofs.Choices.{slab_size}
use Rattle.slab_list.proofs.Orders.{none_first, past_first, this_first, place_within}
use Rattle.slab_list.proofs.list.SlabList.first_partial.Goals as goal

pub returns-in_err-place-clause-first : goal.returns-in_err-place-clause-first
returns-in_err-place-clause-first g c =
    let s = c.args.self.now in
    let law = c.law_order.ensures in
    let whole = c.law_whole.ensures.whole in
    c.from_residual.ensures
    ∙ none_first s c.law_whole.ensures.sizes.0 c.law_whole.ensures.sizes.1 (slab_size s whole)
    (λ i. law.foremost (length s.slabs) i (λ j. is_partial (slab_at s.slabs j)) (comes_before s.slabs) (law.order s.slabs))
    (law.no_foremost (length s.slabs) (λ j. is_partial (slab_at s.slabs j)) (comes_before s.slabs) (law.order s.slabs))
    c.in_err-place.ensures.place

pub returns-then-place-lt-UNUSED-clause-first : goal.returns-then-place-lt-UNUSED-clause-first
returns-then-place-lt-UNUSED-clause-first g c =
    let s = c.args.self.now in
    let law = c.law_order.ensures in
    let whole = c.law_whole.ensures.whole in
    this_first s c.law_whole.ensures.sizes.0 c.law_whole.ensures.sizes.1 (slab_size s whole)
    (λ i. law.foremost (length s.slabs) i (λ j. is_partial (slab_at s.slabs j)) (comes_before s.slabs) (law.order s.slabs))
    (law.no_foremost (length s.slabs) (λ j. is_partial (slab_at s.slabs j)) (comes_before s.slabs) (law.order s.slabs))
    c.in_ok-place.place c.in_ok-place.ensures.place c.if-place-lt-UNUSED.true

pub returns-else-place-lt-UNUSED-clause-first : goal.returns-else-place-lt-UNUSED-clause-first
returns-else-place-lt-UNUSED-clause-first g c =
    let s = c.args.self.now in
    let law = c.law_order.ensures in
    let whole = c.law_whole.ensures.whole in
    past_first s c.law_whole.ensures.sizes.0 c.law_whole.ensures.sizes.1 (slab_size s whole)
    (λ i. law.foremost (length s.slabs) i (λ j. is_partial (slab_at s.slabs j)) (comes_before s.slabs) (law.order s.slabs))
    (law.no_foremost (length s.slabs) (λ j. is_partial (slab_at s.slabs j)) (comes_before s.slabs) (law.order s.slabs))
    c.in_ok-place.place c.in_ok-place.ensures.place c.if-place-lt-UNUSED.false

pub returns-then-place-lt-UNUSED-clause-range : goal.returns-then-place-lt-UNUSED-clause-range
returns-then-place-lt-UNUSED-clause-range g c =
    let s = c.args.self.now in
    place_within s c.law_whole.ensures.sizes.0 c.law_whole.ensures.sizes.1 (slab_size s c.law_whole.ensures.whole)
    c.in_ok-place.place c.in_ok-place.ensures.place.1 c.if-place-lt-UNUSED.true
