use Rattle.std.proofs.Common.{rules, length, ap, refl}
use Rattle.slab_list.specs.Slabs.{ListState}
use Rattle.kmem_model.specs.declared.cache_entry.CacheEntry.TheVariants.{Free}
use Rattle.object_cache.proofs.Joined.{joined_same}
use Rattle.object_cache.proofs.cache.ObjectCache.free.Goals as goal

pub invariant_of-self : goal.invariant_of-self
invariant_of-self g c =
    let f = c.self.inside in
    joined_same f.stock c.give-object.new.self f.moves f.scan f.scan (Free c.args.buf.number) c.self.invariant
    (search rules)
    (ap (λ (l : ListState). length l.cells) c.give-object.ensures.list) refl (ap (λ (l : ListState). l.skip) c.give-object.ensures.list)
