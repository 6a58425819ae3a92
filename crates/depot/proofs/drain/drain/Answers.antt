use Rattle.std.proofs.Common.{◌≡◌, false, [], ◌∷◌, ◌++◌, get_or, set, sym, ap, ◌∙◌, arith}
use Rattle.std.proofs.lemmas.List.{get_or-set_same, get_or-set_other}
use Rattle.std.specs.Slots.{slots_items, slots_filled, slots_counts}
use mathlib.Core.Logic.{dite}
use mathlib.Core.Option.{some}
use native.Mathlib.Decide.{ℕ_discrete}
use lib.ListN.{get_elem?}
use Rattle.depot.proofs.Totals.{take_one_more}
use Rattle.depot.proofs.drain.drain.Goals as goal

pub loop-i-preserved : goal.loop-i-preserved
loop-i-preserved g c =
    let inv = c.loop-i.invariant in let i = c.loop-i.i in let below = c.loop-i-test.true in
    let row = c.loop-i.closed.slots in let filled = slots_filled row in let taken = c.take.ensures.others in
    let counts = slots_counts row in
    let value : get_elem? (slots_items c.args.closed.slots) i ≡ some c.take.result = ap (λ l. get_elem? l i) (sym inv.items) ∙ c.take.ensures.value in
    record {
      items = taken.0 ∙ inv.items;
      len = taken.2 ∙ inv.len;
      values = c.push_reserved.ensures.items ∙ (ap (λ l. l ++ c.take.result ∷ []) inv.values ∙ sym (take_one_more (slots_items c.args.closed.slots) i c.take.result value));
      rest = λ k low high. ap (λ l. get_or l k false) taken.1 ∙ (get_or-set_other filled i k false false (λ e. omega arith) ∙ inv.rest k (omega arith) (omega (arith, taken.2)));
      done = λ k low. ap (λ l. get_or l k false) taken.1 ∙ dite (ℕ_discrete k i)
          (λ e. ap (λ j. get_or (set filled i false) j false) e ∙ get_or-set_same filled i false false (omega (arith, counts.1, inv.len)))
          (λ ne. get_or-set_other filled i k false false ne ∙ inv.done k (omega arith));
      room = omega (arith, c.push_reserved.ensures.capacity, inv.room);
    }
