use Rattle.std.proofs.Common.{rules, ◌≡◌, ◌≤◌, ◌||◌, Bool, false, Some, length, sym, ap, ◌∙◌, subst}
use Rattle.std.specs.List.{list_any}
use Rattle.std.proofs.lemmas.List.{length-map}
use Rattle.slab_list.specs.Slabs.{ListState}
use Rattle.kmem_model.specs.CacheOrder.{is_of_move}
use Rattle.kmem_model.specs.CacheEnter.{enter}
use Rattle.kmem_model.specs.declared.cache_entry.CacheEntry.TheVariants.{Scan}
use Rattle.kmem_model.proofs.SettleWhole.{enter_whole}
use Rattle.object_cache.specs.Cache.{cache_of}
use Rattle.object_cache.specs.Moves.{MovesState, is_left_out_of}
use Rattle.object_cache.proofs.Tracked.{unasked}
use Rattle.object_cache.proofs.cache.ObjectCache.start_scan.Goals as goal

pub invariant_of-self : goal.invariant_of-self
invariant_of-self g c =
    let f = c.self.inside in
    let e = c.ask_anew.ensures in
    let next = c.ask_anew.new.stock in
    let after = c.ask_anew.new.self in
    let cells = ap (λ (l : ListState). length l.cells) e.stock in
    let entered : enter (cache_of f.stock f.moves f.scan).state (Scan c.args.desperate) ≡ Some (cache_of next after c.next-self-inside.result).state = search rules in
    record {
      size = ap (λ (m : MovesState). length m.asked) e.moves ∙ (length-map f.moves.asked (λ (b : Bool). false) ∙ (c.self.invariant.size ∙ sym cells));
      few = subst (λ n. n ≤ 65536) (sym cells) c.self.invariant.few;
      least = search rules;
      most = search rules;
      whole = enter_whole (cache_of f.stock f.moves f.scan).state (cache_of next after c.next-self-inside.result).state (Scan c.args.desperate) c.self.invariant.whole entered;
      skips = e.skips ∙ (c.self.invariant.skips ∙ sym cells);
      left_out = λ b.
          e.left_out b
          ∙ (ap (λ (f : Bool). f || list_any (is_of_move b) c.self.inside.moves.pending) (sym (unasked f.moves.asked b))
          ∙ sym (ap (λ (m : MovesState). is_left_out_of m.asked m.pending b) e.moves));
    }
