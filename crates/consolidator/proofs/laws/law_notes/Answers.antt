use Rattle.std.proofs.Common.{◌≡◌, ℕ, refl}
use Rattle.kmem_model.specs.CacheScans.{is_begin}
use Rattle.kmem_model.specs.Report.{MoveCounts, is_yes, is_no, is_later, is_dont_need, is_dont_know, is_end_by, is_gone_entry}
use Rattle.consolidator.proofs.Noting.{begun_noted, yes_noted, no_noted, later_noted, dont_need_noted, dont_know_noted, gone_noted, fresh_counted, both_counted}
use Rattle.consolidator.proofs.laws.law_notes.Goals as goal

-- counts that are equal one by one
same_ends : (a a' b b' c c' d d' e e' f f' : ℕ) → a ≡ a' → b ≡ b' → c ≡ c' → d ≡ d' → e ≡ e' → f ≡ f' →
    ◌≡◌ {A = MoveCounts} (record { yes = a; no = b; later = c; dont_need = d; dont_know = e; gone = f })
    (record { yes = a'; no = b'; later = c'; dont_need = d'; dont_know = e'; gone = f' })
same_ends a a' b b' c c' d d' e e' f f' ea eb ec ed ee ef = cc

pub returns-clause-begun : goal.returns-clause-begun
returns-clause-begun c n entries fresh = fresh_counted (λ t. t.begun) is_begin begun_noted refl entries n fresh

pub returns-clause-ends : goal.returns-clause-ends
returns-clause-ends c n entries fresh =
    same_ends _ _ _ _ _ _ _ _ _ _ _ _
    (fresh_counted (λ t. t.yes) (is_end_by is_yes) yes_noted refl entries n fresh)
    (fresh_counted (λ t. t.no) (is_end_by is_no) no_noted refl entries n fresh)
    (fresh_counted (λ t. t.later) (is_end_by is_later) later_noted refl entries n fresh)
    (fresh_counted (λ t. t.dont_need) (is_end_by is_dont_need) dont_need_noted refl entries n fresh)
    (fresh_counted (λ t. t.dont_know) (is_end_by is_dont_know) dont_know_noted refl entries n fresh)
    (fresh_counted (λ t. t.gone) is_gone_entry gone_noted refl entries n fresh)

pub returns-clause-both_begun : goal.returns-clause-both_begun
returns-clause-both_begun c n m xs ys fresh fresh' = both_counted (λ t. t.begun) is_begin begun_noted refl xs ys n m fresh fresh'

pub returns-clause-both_ends : goal.returns-clause-both_ends
returns-clause-both_ends c n m xs ys fresh fresh' =
    same_ends _ _ _ _ _ _ _ _ _ _ _ _
    (both_counted (λ t. t.yes) (is_end_by is_yes) yes_noted refl xs ys n m fresh fresh')
    (both_counted (λ t. t.no) (is_end_by is_no) no_noted refl xs ys n m fresh fresh')
    (both_counted (λ t. t.later) (is_end_by is_later) later_noted refl xs ys n m fresh fresh')
    (both_counted (λ t. t.dont_need) (is_end_by is_dont_need) dont_need_noted refl xs ys n m fresh fresh')
    (both_counted (λ t. t.dont_know) (is_end_by is_dont_know) dont_know_noted refl xs ys n m fresh fresh')
    (both_counted (λ t. t.gone) is_gone_entry gone_noted refl xs ys n m fresh fresh')
