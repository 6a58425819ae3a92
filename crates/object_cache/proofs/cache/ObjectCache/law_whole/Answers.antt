use Rattle.std.proofs.Common.{◌≤◌, ◌*◌, length, sym, ◌∙◌, subst}
use Rattle.kmem_model.specs.SettleWhole.{IsWhole}
use Rattle.object_cache.specs.Cache.{CacheView}
use Rattle.object_cache.proofs.cache.ObjectCache.law_whole.Goals as goal

pub returns-clause-whole : goal.returns-clause-whole
returns-clause-whole g c = subst (λ (v : CacheView). IsWhole v.state) c.self.view_is c.self.invariant.whole

pub returns-clause-few : goal.returns-clause-few
returns-clause-few g c =
    let it = c.self.invariant in
    subst (λ (v : CacheView). length v.state.slabs * v.state.chunks ≤ 65536) c.self.view_is
    (subst (λ n. n ≤ 65536) (sym it.size ∙ it.whole.asked) it.few)
