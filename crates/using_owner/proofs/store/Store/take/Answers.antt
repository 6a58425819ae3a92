use Rattle.std.proofs.Common.{◌≡◌, ◌≢◌, ◌<◌, List, length, set, ap, sym, ◌∙◌, subst, arith}
use Rattle.kmem_buf.specs.declared.owner.Stand.{Stand}
use Rattle.kmem_buf.specs.declared.owner.Stand.TheVariants.{Unknown}
use Rattle.consolidator.specs.Owned.{AreOwned}
use Rattle.kmem_buf.specs.Owners.{stand_at}
use Rattle.using_owner.specs.Shelves.{ShelfState}
use Rattle.using_owner.specs.Stores.{StoreState}
use Rattle.using_owner.proofs.Stored.{free_quiet, calm_still, owned_less, stand_within}
use Rattle.using_owner.proofs.store.Store.take.Goals as goal

pub invariant_of-self : goal.invariant_of-self
invariant_of-self c =
    let cache = c.self.inside.cache in let shelf = c.self.inside.shelf in let n = c.take-buf.result.number in let kept = c.self.invariant in
    let is : n ≡ c.args.number = c.take-buf.ensures.buf.0 in
    let low : n < length shelf.stands = omega (arith, is, stand_within shelf.stands c.args.number (subst (λ (s : StoreState). stand_at s.shelf.stands c.args.number ≢ Unknown) (sym c.self.view_is) c.requires)) in
    let quiet = free_quiet cache.state c.free.new.self.state n c.free.ensures.entry in
    record {
      home = ap (λ (s : ShelfState). s.home) c.take-buf.ensures.shelf ∙ (kept.home ∙ sym c.free.ensures.home);
      calm = calm_still cache.state c.free.new.self.state quiet kept.calm;
      owned =
          subst (λ (xs : List Stand). AreOwned c.free.new.self.state xs)
          (ap (λ k. set shelf.stands k Unknown) is ∙ sym (ap (λ (s : ShelfState). s.stands) c.take-buf.ensures.shelf))
          (owned_less cache.state c.free.new.self.state shelf.stands n low
          (λ b. c.law_out.ensures.free cache.state c.free.new.self.state n b c.law_whole.ensures.whole c.free.ensures.entry) quiet kept.owned);
    }
