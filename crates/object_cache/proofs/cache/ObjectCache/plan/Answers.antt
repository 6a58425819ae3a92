use Rattle.std.proofs.Common.{◌≡◌, ◌/◌, true, false, None, is_none, length, get_or, All, sym, ap, ◌∙◌, refl, subst}
use Rattle.kmem_model.specs.CacheState.{slab_at, is_listed, is_out, free_buffers}
use Rattle.kmem_model.specs.CacheOrder.{IsLeastBelow, free_number, first_partial_free, is_idle}
use Rattle.object_cache.specs.Cache.{CacheView, cache_of}
use Rattle.object_cache.proofs.Planned.{limit_idle, chosen_free, may, none_says}
use Rattle.object_cache.proofs.cache.ObjectCache.plan.Goals as goal

pub returns-in_err-number-clause-none : goal.returns-in_err-number-clause-none
returns-in_err-number-clause-none g c =
    let f = c.self.inside in
    let pending = f.moves.pending in
    let is = c.self.view_is ∙ c.choice.ensures.same in
    (λ _.
    sym (ap (λ (v : CacheView). is_idle v.state) is)
    ∙ limit_idle (cache_of f.stock f.moves f.scan).state
    ((c.law_order.ensures.no_least (length pending) (λ j. is_none (get_or pending j None))).0 (sym c.free_number.ensures ∙ c.in_err-number.was)))

pub returns-in_err-to-clause-none : goal.returns-in_err-to-clause-none
returns-in_err-to-clause-none g c =
    λ _.
    absurd
    (chosen_free c.args.self.now.state c.law_order.ensures.least c.law_order.ensures.foremost c.law_order.ensures.reversed c.in_ok-from.from c.in_ok-from.ensures.some.1
    (subst (λ (v : CacheView). All (λ slab. is_listed slab ≡ true → free_buffers slab ≡ 0) v.state.slabs) (c.self.view_is ∙ c.choice.ensures.same) (c.in_err-to.ensures.none refl)))

pub returns-clause-some : goal.returns-clause-some
returns-clause-some g c =
    let s = c.args.self.now.state in
    let n = c.in_ok-number.number in
    let b = c.in_ok-to.to in
    let number = ap (λ (v : CacheView). free_number v.state) (sym (c.self.view_is ∙ c.choice.ensures.same)) ∙ (sym c.free_number.ensures ∙ c.in_ok-number.was) in
    let least : IsLeastBelow (length s.pending) (λ j. is_none (get_or s.pending j None)) n =
    (c.law_order.ensures.least (length s.pending) n (λ j. is_none (get_or s.pending j None))).0 number in
    let idle = none_says (get_or s.pending n None) least.passes in
    let first = ap (λ (v : CacheView). first_partial_free v.state.chunks v.state.slabs) (sym (c.self.view_is ∙ c.choice.ensures.same)) ∙ (sym c.first_partial_free_on.ensures.first ∙ c.in_ok-to.was) in
    record {
      may = may s n c.in_ok-from.from b c.in_ok-from.ensures.some.0 c.in_ok-from.ensures.some.1 number least.below idle first;
      number_in = least.below;
      idle = idle;
      from_in = c.in_ok-from.ensures.some.2;
      first = first;
      free =
          subst (λ (v : CacheView). (is_listed (slab_at v.state.slabs (b / v.state.chunks)) ≡ true) × (is_out v.state b ≡ false)) (c.self.view_is ∙ c.choice.ensures.same)
          c.in_ok-to.ensures.free;
    }
