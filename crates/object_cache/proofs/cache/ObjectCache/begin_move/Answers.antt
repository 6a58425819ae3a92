use Rattle.std.proofs.Common.{rules, ◌≡◌, ◌<◌, true, false, None, Some, List, Bool, length, get_or, set, arith, ap, refl, sym, ◌∙◌, length-set}
use Rattle.std.specs.Option.{option_or}
use Rattle.std.proofs.lemmas.Option.{slice_get_within}
use Rattle.slab_list.specs.Slabs.{ListState}
use Rattle.kmem_model.specs.CacheOrder.{first_partial_free, by_growth, by_revival}
use Rattle.kmem_model.specs.CacheEnter.{enter}
use Rattle.kmem_model.specs.declared.cache_entry.CacheEntry.TheVariants.{Begin}
use Rattle.object_cache.specs.Cache.{CacheView, cache_of}
use Rattle.object_cache.specs.Stock.{bare}
use Rattle.object_cache.specs.Moves.{MovesState, is_left_out_of}
use Rattle.object_cache.proofs.Joined.{joined}
use Rattle.object_cache.proofs.Tracked.{out_begun}
use Rattle.object_cache.proofs.cache.ObjectCache.begin_move.Goals as goal

pub invariant_of-self : goal.invariant_of-self
invariant_of-self g c =
    let f = c.self.inside in
    let n = c.args.plan.number in
    let from = c.args.plan.from in
    let to = c.args.plan.to in
    let next = c.leave_out-2.new.self in
    let after = c.begin-pending.new.self in
    let low : n < length f.moves.pending = omega (arith, c.requires.plan.number_in, ap (λ (v : CacheView). length v.state.pending) c.self.view_is) in
    let free : get_or f.moves.pending n None ≡ None = ap (λ (v : CacheView). get_or v.state.pending n None) c.self.view_is ∙ c.requires.plan.idle in
    let one : from < length f.moves.asked = omega (arith, c.requires.plan.from_in, ap (λ (v : CacheView). length v.state.asked) c.self.view_is) in
    let first : first_partial_free f.stock.chunks f.stock.slabs ≡ Some to =
    ap (λ (v : CacheView). first_partial_free v.state.chunks v.state.slabs) c.self.view_is ∙ c.requires.plan.first in
    let taken : Some to ≡ Some c.take-buf.result.number =
    sym (ap (λ o. option_or o (option_or (by_growth (bare f.stock)) (by_revival (bare f.stock)))) first) ∙ c.take-buf.ensures.wanted in
    let number : to ≡ c.take-buf.result.number = cc in
    let other : to < length f.moves.asked =
    omega (arith, number, slice_get_within f.stock.cells c.take-buf.result.number c.take-buf.result.home c.take-buf.ensures.buf.1, c.self.invariant.size) in
    let skip : next.skip ≡ set (set f.stock.skip from true) to true =
    ap (λ (l : ListState). l.skip) c.leave_out-2.ensures
    ∙ (ap (λ (l : ListState). set l.skip to true) c.leave_out.ensures ∙ ap (λ (l : ListState). set (set l.skip from true) to true) c.take-buf.ensures.list) in
    let cells : length next.cells ≡ length f.stock.cells =
    ap (λ (l : ListState). length l.cells) c.leave_out-2.ensures
    ∙ (ap (λ (l : ListState). length l.cells) c.leave_out.ensures ∙ ap (λ (l : ListState). length l.cells) c.take-buf.ensures.list) in
    let entered : enter (cache_of f.stock f.moves f.scan).state (Begin n from to) ≡ Some (cache_of next after (record f.scan { begun = true })).state = search rules in
    joined f.stock next f.moves after f.scan (record f.scan { begun = true }) (Begin n from to) c.self.invariant entered cells refl
    (ap (λ (bs : List Bool). length bs) skip ∙ (length-set (set f.stock.skip from true) to true ∙ length-set f.stock.skip from true))
    (λ b.
    ap (λ (bs : List Bool). get_or bs b false) skip
    ∙ (out_begun f.moves.asked f.stock.skip f.moves.pending n low (c.self.invariant.skips ∙ sym c.self.invariant.size) c.self.invariant.left_out from to free one other b
    ∙ sym (ap (λ (m : MovesState). is_left_out_of m.asked m.pending b) c.begin-pending.ensures.moves)))
