use Rattle.std.proofs.Common.{◌≡◌, ℕ, Bool, false, get_or, sym, ap, ◌∙◌}
use Rattle.kmem_model.specs.declared.cache_state.Mode.{Mode}
use Rattle.kmem_model.specs.CacheOrder.{chosen, last_reclaimable, is_left_out}
use Rattle.object_cache.specs.Cache.{CacheView, cache_of}
use Rattle.object_cache.proofs.cache.ObjectCache.last_to_ask.Goals as goal

pub returns-clause-choice : goal.returns-clause-choice
returns-clause-choice g c =
    let f = c.self.inside in
    let s = (cache_of f.stock f.moves f.scan).state in
    let skip : ℕ → Bool = λ b. get_or f.stock.skip b false in
    let same : skip ≡ is_left_out s = λ i b. c.self.invariant.left_out b i in
    let mode = sym c.requires.mode ∙ ap (λ (v : CacheView). v.state.mode) (sym c.self.view_is) in
    c.last_reclaimable.ensures.choice
    ∙ (ap (λ (m : Mode). last_reclaimable f.stock.chunks f.scan.numerator m skip f.stock.slabs) mode
    ∙ (ap (λ (k : ℕ → Bool). last_reclaimable f.stock.chunks f.scan.numerator f.scan.mode k f.stock.slabs) same
    ∙ ap (λ (v : CacheView). chosen v.state) c.self.view_is))
