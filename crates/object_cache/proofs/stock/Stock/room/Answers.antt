use Rattle.std.proofs.Common.{◌≡◌, ◌*◌, Some, length, arith, sym, ap, ◌∙◌, refl, option_map, subst, true, false, All}
use Rattle.std.specs.FinSet as fin
use Rattle.std.proofs.lemmas.Nat.{mul-add-lt}
use Rattle.kmem_model.specs.CacheState.{slab_at, is_in_source, is_dead, is_listed, free_buffers}
use Rattle.kmem_model.specs.CacheOrder.{IsLeastBelow, least_below, first_partial_free}
use Rattle.kmem_model.specs.CacheEnter.{is_full}
use Rattle.slab_list.specs.Slabs.{ListState, IsFree}
use Rattle.object_cache.specs.Stock.{bare}
use Rattle.object_cache.proofs.Lists.{some_of, place_of}
use Rattle.object_cache.proofs.Full.{free_not_full, unlisted_not_full, all_full, some_source, none_held, none_of}
use Rattle.object_cache.proofs.Rooms.{wanted_dead, dead_unlisted, source_unlisted}
use Rattle.object_cache.proofs.stock.Stock.room.Goals as goal

pub returns-in-Some-clause-some : goal.returns-in-Some-clause-some
returns-in-Some-clause-some g c =
    let list = c.self.inside.list in
    let source = c.self.inside.supply in
    let b = c.in-Some.number in (
      (sym c.in-Some.ensures.first, c.in-Some.ensures.free),
      subst (λ (l : ListState). is_full (bare l) ≡ false) c.self.view_is
          (free_not_full list source c.self.invariant c.chunks-chunks.ensures.whole b (subst (λ (l : ListState). IsFree l b) (sym c.self.view_is) c.in-Some.ensures.free)),
    )

pub returns-then-left-gt0-clause-some : goal.returns-then-left-gt0-clause-some
returns-then-left-gt0-clause-some g c =
    let list = c.self.inside.list in
    let source = c.self.inside.supply in
    let there = some_source list source c.self.invariant c.law_order.ensures.no_least (omega (arith, c.left.ensures, c.if-left-gt0.true)) in
    let found = some_of (λ i. i * list.chunks) (least_below (length list.slabs) (λ i. is_in_source (slab_at list.slabs i))) there in
    let least : IsLeastBelow (length list.slabs) (λ i. is_in_source (slab_at list.slabs i)) found.0 =
    (c.law_order.ensures.least (length list.slabs) found.0 (λ i. is_in_source (slab_at list.slabs i))).0 found.1 in
    rw (← c.self.view_is) (
      (ap (λ l. first_partial_free l.chunks l.slabs) c.self.view_is ∙ (sym c.first_partial_free.ensures.first ∙ c.in_default.is), there),
      unlisted_not_full list source c.self.invariant c.chunks-chunks.ensures.whole found.0 least.below (source_unlisted (slab_at list.slabs found.0) least.passes),
    )

pub returns-in_err-slab-clause-none : goal.returns-in_err-slab-clause-none
returns-in_err-slab-clause-none g c =
    let list = c.self.inside.list in
    let source = c.self.inside.supply in
    let empty : source.held ≡ fin.empty = fin.empty_of_len source.held (omega (arith, c.left.ensures, c.if-left-gt0.false)) in
    rw (← c.self.view_is)
    (λ _.
    all_full list source c.self.invariant (subst (λ (l : ListState). All (λ slab. is_listed slab ≡ true → free_buffers slab ≡ 0) l.slabs) (sym c.self.view_is) (c.in_default.ensures.none refl)) (none_held list source c.self.invariant empty)
    ((c.law_order.ensures.no_least (length list.slabs) (λ i. is_dead (slab_at list.slabs i))).0 (sym c.first_dead.ensures ∙ c.in_err-slab.was)))

pub overflow_mul-result : goal.overflow_mul-result
overflow_mul-result g c =
    let list = c.self.inside.list in
    let whole = c.chunks-chunks.ensures.whole in
    let least : IsLeastBelow (length list.slabs) (λ i. is_dead (slab_at list.slabs i)) c.in_ok-slab.slab =
    (c.law_order.ensures.least (length list.slabs) c.in_ok-slab.slab (λ i. is_dead (slab_at list.slabs i))).0 (sym c.first_dead.ensures ∙ c.in_ok-slab.was) in
    rw c.chunks-chunks.ensures.chunks
    (omega (arith, mul-add-lt c.in_ok-slab.slab list.chunks 0 (length list.slabs) least.below whole.some, whole.cells, whole.few))

pub returns-clause-some : goal.returns-clause-some
returns-clause-some g c =
    let list = c.self.inside.list in
    let source = c.self.inside.supply in
    let i = c.in_ok-slab.slab in
    let whole = c.chunks-chunks.ensures.whole in
    let found = sym c.first_dead.ensures ∙ c.in_ok-slab.was in
    let least : IsLeastBelow (length list.slabs) (λ j. is_dead (slab_at list.slabs j)) i =
    (c.law_order.ensures.least (length list.slabs) i (λ j. is_dead (slab_at list.slabs j))).0 found in
    let empty : source.held ≡ fin.empty = fin.empty_of_len source.held (omega (arith, c.left.ensures, c.if-left-gt0.false)) in
    let place = place_of i list.chunks c.chunks-chunks.result whole.some c.chunks-chunks.ensures.chunks in
    rw (← c.self.view_is) (
      (
        wanted_dead list (Some (i * c.chunks-chunks.result))
            (ap (λ l. first_partial_free l.chunks l.slabs) c.self.view_is ∙ (sym c.first_partial_free.ensures.first ∙ c.in_default.is))
            (none_of list source c.self.invariant c.law_order.ensures.no_least is_in_source (none_held list source c.self.invariant empty))
            (ap (option_map (λ j. j * list.chunks)) found ∙ ap (λ n. Some (i * n)) (sym c.chunks-chunks.ensures.chunks)),
        ap (λ j. is_dead (slab_at list.slabs j)) place.0 ∙ least.passes,
        place.1,
      ),
      unlisted_not_full list source c.self.invariant whole i least.below (dead_unlisted (slab_at list.slabs i) least.passes).0,
    )
