use Rattle.std.proofs.Common.{◌-◌, ◌^◌, min, ap, sym, ◌∙◌, refl}
use Rattle.kmem_model.specs.Report.{is_yes, is_no, is_later, is_dont_need, is_dont_know}
use Rattle.std.proofs.Common.{cond, ◌++◌}
use Rattle.consolidator.specs.Tallies.{tally_of, tally_sum}
use Rattle.consolidator.proofs.Sums.{begun_by, yes_by, no_by, later_by, dont_need_by, dont_know_by, gone_by, of_by, sum_is, ones, zeros, same_tally}
use Rattle.consolidator.proofs.laws.law_tally.Goals as goal

pub returns-clause-begun : goal.returns-clause-begun
returns-clause-begun c moves = of_by (λ t. t.begun) (λ said. 1) begun_by refl moves ∙ ap (λ n. min n (2 ^ 64 - 1)) (ones moves)

pub returns-clause-yes : goal.returns-clause-yes
returns-clause-yes c moves = of_by (λ t. t.yes) (λ said. cond (is_yes said) 1 0) yes_by refl moves ∙ sym (ap (λ n. min n (2 ^ 64 - 1)) (c.law_settle_entries.ensures.ends is_yes moves))

pub returns-clause-no : goal.returns-clause-no
returns-clause-no c moves = of_by (λ t. t.no) (λ said. cond (is_no said) 1 0) no_by refl moves ∙ sym (ap (λ n. min n (2 ^ 64 - 1)) (c.law_settle_entries.ensures.ends is_no moves))

pub returns-clause-later : goal.returns-clause-later
returns-clause-later c moves = of_by (λ t. t.later) (λ said. cond (is_later said) 1 0) later_by refl moves ∙ sym (ap (λ n. min n (2 ^ 64 - 1)) (c.law_settle_entries.ensures.ends is_later moves))

pub returns-clause-dont_need : goal.returns-clause-dont_need
returns-clause-dont_need c moves = of_by (λ t. t.dont_need) (λ said. cond (is_dont_need said) 1 0) dont_need_by refl moves ∙ sym (ap (λ n. min n (2 ^ 64 - 1)) (c.law_settle_entries.ensures.ends is_dont_need moves))

pub returns-clause-dont_know : goal.returns-clause-dont_know
returns-clause-dont_know c moves = of_by (λ t. t.dont_know) (λ said. cond (is_dont_know said) 1 0) dont_know_by refl moves ∙ sym (ap (λ n. min n (2 ^ 64 - 1)) (c.law_settle_entries.ensures.ends is_dont_know moves))

pub returns-clause-gone : goal.returns-clause-gone
returns-clause-gone c moves = of_by (λ t. t.gone) (λ said. 0) gone_by refl moves ∙ ap (λ n. min n (2 ^ 64 - 1)) (zeros moves ∙ sym (c.law_settle_entries.ensures.none_gone moves))

pub returns-clause-sum : goal.returns-clause-sum
returns-clause-sum c xs ys =
    same_tally (tally_of (xs ++ ys)) (tally_sum (tally_of xs) (tally_of ys))
    (sum_is (λ t. t.begun) (λ said. 1) begun_by refl xs ys)
    (sum_is (λ t. t.yes) (λ said. cond (is_yes said) 1 0) yes_by refl xs ys)
    (sum_is (λ t. t.no) (λ said. cond (is_no said) 1 0) no_by refl xs ys)
    (sum_is (λ t. t.later) (λ said. cond (is_later said) 1 0) later_by refl xs ys)
    (sum_is (λ t. t.dont_need) (λ said. cond (is_dont_need said) 1 0) dont_need_by refl xs ys)
    (sum_is (λ t. t.dont_know) (λ said. cond (is_dont_know said) 1 0) dont_know_by refl xs ys)
    (sum_is (λ t. t.gone) (λ said. 0) gone_by refl xs ys)
