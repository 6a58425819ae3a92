use Rattle.std.proofs.Common.{◌<◌, List, length, ap, sym, ◌∙◌, subst, arith}
use Rattle.std.proofs.lemmas.Option.{slice_get_within}
use Rattle.kmem_buf.specs.declared.owner.Stand.{Stand}
use Rattle.kmem_model.specs.One.{buffers_of}
use Rattle.consolidator.specs.Owned.{AreOwned}
use Rattle.using_owner.specs.Shelves.{ShelfState}
use Rattle.using_owner.proofs.Stored.{alloc_quiet, calm_still, owned_more, put_there}
use Rattle.using_owner.proofs.store.Store.put.Goals as goal

pub invariant_of-self-2 : goal.invariant_of-self-2
invariant_of-self-2 c =
    let cache = c.self.inside.cache in let shelf = c.self.inside.shelf in let n = c.in-Ok.buf.number in let kept = c.self.invariant in
    let low : n < length cache.home.cells = slice_get_within cache.home.cells n c.in-Ok.buf.home c.in-Ok.ensures.ready.1 in
    let sized = c.law_size.ensures.stands ∙ ap (λ h. length h.cells) kept.home in
    let quiet = alloc_quiet cache.state c.alloc.new.self.state n c.in-Ok.ensures.entry in
    let below : n < buffers_of cache.state = omega (arith, low, sized, kept.owned.size, c.law_whole.ensures.whole.asked) in
    record {
      home = ap (λ (s : ShelfState). s.home) c.put.ensures ∙ (kept.home ∙ sym c.in-Ok.ensures.home);
      calm = calm_still cache.state c.alloc.new.self.state quiet kept.calm;
      owned =
          subst (λ (xs : List Stand). AreOwned c.alloc.new.self.state xs) (sym (ap (λ (s : ShelfState). s.stands) c.put.ensures))
          (owned_more cache.state c.alloc.new.self.state shelf.stands n c.args.stand c.requires (omega (arith, low, sized))
          (λ b. c.law_out.ensures.alloc cache.state c.alloc.new.self.state n b c.law_whole.ensures.whole below c.in-Ok.ensures.entry) quiet kept.owned);
    }

pub returns-clause-put : goal.returns-clause-put
returns-clause-put c =
    let cache = c.self.inside.cache in let shelf = c.self.inside.shelf in let n = c.in-Ok.buf.number in
    let low : n < length cache.home.cells = slice_get_within cache.home.cells n c.in-Ok.buf.home c.in-Ok.ensures.ready.1 in
    let sized = c.law_size.ensures.stands ∙ ap (λ h. length h.cells) c.self.invariant.home in
    put_there shelf c.put.new.self n c.number-number.result c.args.word c.args.stand (omega (arith, low, sized)) (omega (arith, low, c.law_size.ensures.words, ap (λ h. length h.cells) c.self.invariant.home)) c.number-number.ensures c.put.ensures
