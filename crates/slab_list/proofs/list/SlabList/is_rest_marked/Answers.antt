use Rattle.std.proofs.Common.{not, length, arith, sym, ap, ◌∙◌}
use Rattle.kmem_model.specs.CacheState.{slab_at}
use Rattle.kmem_model.specs.CacheOrder.{is_partial, comes_before}
use Rattle.slab_list.proofs.Choices.{slab_size}
use Rattle.slab_list.proofs.Orders.{place_within}
use Rattle.slab_list.proofs.Rest.{rest_none, rest_by_last}
use Rattle.slab_list.proofs.list.SlabList.is_rest_marked.Goals as goal

pub is_open-requires : goal.is_open-requires
is_open-requires g c =
    let s = c.args.self.now in
    let found = c.in-Some.ensures in
    place_within s c.law_whole.ensures.sizes.0 c.law_whole.ensures.sizes.1 (slab_size s c.law_whole.ensures.whole)
    c.in-Some.place found.1 (omega (arith, found.0))

pub returns-in-Some : goal.returns-in-Some
returns-in-Some g c =
    let s = c.args.self.now in
    let law = c.law_order.ensures in
    ap not c.is_open.ensures
    ∙ sym (rest_by_last s c.law_whole.ensures.sizes.0 c.law_whole.ensures.sizes.1 (slab_size s c.law_whole.ensures.whole) law.no_least
    (λ i. law.foremost (length s.slabs) i (λ j. is_partial (slab_at s.slabs j)) (comes_before s.slabs) (law.order s.slabs))
    c.in-Some.place c.in-Some.ensures)

pub returns-in-None : goal.returns-in-None
returns-in-None g c =
    let s = c.args.self.now in
    let law = c.law_order.ensures in
    sym (rest_none s c.law_whole.ensures.sizes.0 c.law_whole.ensures.sizes.1 (slab_size s c.law_whole.ensures.whole) law.no_least
    (λ i. law.foremost (length s.slabs) i (λ j. is_partial (slab_at s.slabs j)) (comes_before s.slabs) (law.order s.slabs))
    c.in-None.ensures)
