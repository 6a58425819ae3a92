use Rattle.std.proofs.Common.{rules, ◌≡◌, ◌<◌, true, None, is_none, length, get_or, arith, sym, ap, ◌∙◌}
use Rattle.std.proofs.lemmas.List.{get_or_default}
use Rattle.object_cache.proofs.moves.Moves.free_number.Goals as goal

pub returns-then-is_none : goal.returns-then-is_none
returns-then-is_none c =
    let pending = c.args.self.now.pending in
    let i = c.loop-number.number in
    let below : i < length pending = omega (arith, c.loop-number-test.true, c.len-limit.ensures, c.self.inside.pending.ok.0, ap (λ m. length m.pending) c.self.view_is) in
    let none : is_none c.index.result.now ≡ true = search rules in
    sym
    ((c.law_order.ensures.least (length pending) i (λ j. is_none (get_or pending j None))).1
    (record {
      below = below;
      passes =
          ap (λ m. is_none (get_or m.pending i None)) (sym c.self.view_is)
          ∙ (ap is_none (get_or_default c.self.inside.pending.items i None c.index.result.now (omega (arith, c.loop-number-test.true, c.len-limit.ensures, c.self.inside.pending.ok.0)) ∙ sym c.index.ensures)
          ∙ none);
      least = c.loop-number.invariant;
    }))
