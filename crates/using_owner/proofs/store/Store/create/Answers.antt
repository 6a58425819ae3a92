use Rattle.std.proofs.Common.{◌≡◌, ap, sym, ◌∙◌, subst, arith, List}
use Rattle.kmem_buf.specs.declared.owner.Stand.{Stand}
use Rattle.kmem_model.specs.CacheState.{CacheState, sizes_of, opening, has_pending}
use Rattle.consolidator.specs.Owned.{AreOwned}
use Rattle.using_owner.specs.Shelves.{ShelfState}
use Rattle.using_owner.proofs.Stored.{start}
use Rattle.using_owner.proofs.store.Store.create.Goals as goal

pub invariant_of-result : goal.invariant_of-result
invariant_of-result c =
    let sizes = sizes_of c.args.slabs c.args.chunks 1 in let cache = c.in_ok-cache.cache.state in
    let is : cache ≡ opening sizes = c.in_ok-cache.ensures.state in
    let stands = ap (λ (s : ShelfState). s.stands) c.in_ok-shelf.ensures in
    record {
      home = ap (λ (s : ShelfState). s.home) c.in_ok-shelf.ensures ∙ c.home.ensures;
      calm = ap has_pending is;
      owned =
          subst (λ (s : CacheState). AreOwned s c.in_ok-shelf.shelf.stands) (sym is)
          (subst (λ (xs : List Stand). AreOwned (opening sizes) xs) (sym stands)
          (start c.args.slabs c.args.chunks (c.law_whole.ensures.opening sizes (omega (arith, c.requires.chunks.0)) (omega arith))));
    }
