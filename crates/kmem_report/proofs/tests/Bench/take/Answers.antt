use Rattle.std.proofs.Common.{sym, subst}
use Rattle.kmem_buf.specs.Homes.{Homes}
use Rattle.kmem_model.specs.declared.cache_entry.CacheEntry.TheVariants.{Alloc}
use Rattle.kmem_report.specs.Bench.{AreHeld}
use Rattle.kmem_report.proofs.Sizes.{sizes_kept}
use Rattle.kmem_report.proofs.Held.{held_more}
use Rattle.kmem_report.proofs.tests.Bench.take.Goals as goal

pub invariant_of-self-2 : goal.invariant_of-self-2
invariant_of-self-2 c = (
  sizes_kept 2 4 _ _ (Alloc c.in-Ok.buf.number) c.in-Ok.ensures.entry c.self.invariant.0,
  subst (λ (h : Homes). AreHeld h c.push.new.self.items) (sym c.in-Ok.ensures.home)
      (held_more c.self.inside.cache.home _ _ _ _ c.push.ensures.items c.self.invariant.1 c.in-Ok.ensures.ready.1 c.in-Ok.ensures.ready.0),
)
