use Rattle.std.proofs.Common.{Some, length, sym, ap, refl}
use Rattle.slab_list.specs.Slabs.{ListState}
use Rattle.kmem_model.specs.declared.cache_entry.CacheEntry.TheVariants.{Forget}
use Rattle.object_cache.specs.Cache.{cache_of}
use Rattle.object_cache.proofs.Joined.{joined_same}
use Rattle.object_cache.proofs.cache.ObjectCache.forget.Goals as goal

pub invariant_of-self : goal.invariant_of-self
invariant_of-self g c =
    let f = c.self.inside in
    joined_same f.stock c.forget.new.self f.moves f.scan f.scan Forget c.self.invariant
    (ap (λ (l : ListState). Some (cache_of l f.moves f.scan).state) (sym c.forget.ensures))
    (ap (λ (l : ListState). length l.cells) c.forget.ensures) refl (ap (λ (l : ListState). l.skip) c.forget.ensures)
