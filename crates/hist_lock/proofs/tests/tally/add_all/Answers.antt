use Rattle.std.proofs.Common.{◌≡◌, ◌+◌, ◌++◌, ◌∷◌, [], length, ap, sym, ◌∙◌, arith, Some}
use Rattle.hist_lock.specs.History.{listed, told, entries_of}
use Rattle.hist_lock.specs.Tally.{sum_of, sums_before}
use Rattle.hist_lock.proofs.Tallies.{sums_before-own, same_before}
use Rattle.hist_lock.proofs.tests.tally.add_all.Goals as goal

pub loop-i-preserved : goal.loop-i-preserved
loop-i-preserved g c =
    let inv = c.loop-i.invariant in let turn = c.act-before.ensures in let h = turn.0 in let entry = turn.1 in let t = turn.2 in
    let n = c.args.done.pass.number in let old = c.loop-i.pass in let new = c.act-before.new.pass in let a = c.amount.result in
    let made : entry ≡ Some a = t.answered.1 in
    let one : length (listed entry) ≡ 1 = ap (λ e. length (listed e)) made in
    let left = t.left in let so_far = inv.so_far in let room = inv.room in
    let now : entries_of n h ≡ old.mine = ap (λ k. entries_of k h) (sym inv.number_is) ∙ t.met.exact in
    let before : sums_before 0 n h ≡ sums_before 0 n old.seen = same_before n old.seen h old.mine t.met.front inv.exact now in
    let seen : new.seen ≡ h ++ (n, a) ∷ [] = t.seen ∙ (λ i. told h (inv.number_is i) (made i)) in
    let sum_is : 0 + sum_of h ≡ c.act-before.result = let s = t.answered.0 in omega arith in
    record {
      of = t.site ∙ inv.of;
      number_is = t.number ∙ inv.number_is;
      so_far = omega arith;
      found = c.push_reserved.ensures.items ∙ (sym (ap (sums_before 0 n) seen ∙ (sums_before-own 0 n a h ∙ (λ i. (before ∙ sym inv.found) i ++ sum_is i ∷ []))));
      exact = ap (λ k. entries_of k new.seen) (sym inv.number_is) ∙ t.exact;
      room = omega (arith, c.push_reserved.ensures.len, c.push_reserved.ensures.capacity);
    }
