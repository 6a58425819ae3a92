-- Numbers that are drawn in order, and what two passes drew.
use Rattle.std.proofs.Common.{◌≡◌, ℕ, ◌+◌, List, [], ◌∷◌, ◌++◌, length, ap, sym, ◌∙◌, refl, arith}
use Rattle.std.proofs.lemmas.List.{map-append, map-id, length-append}
use Rattle.std.proofs.lemmas.List.FromFn.{map-range_with_len_more}
use Rattle.std.specs.List.{range_with_len}
use Rattle.hist_lock.specs.History.{entries_of}
use Rattle.hist_lock.specs.Passes.{PassState}
use Rattle.using_lock.specs.Numbers.{IsCounter, HasGot}

-- one number more, from the first on
range_more : (first n j : ℕ) → first + n ≡ j → range_with_len first (n + 1) ≡ range_with_len first n ++ j ∷ []
range_more first n j e =
    sym (map-id (range_with_len first (n + 1))) ∙ (map-range_with_len_more (λ (x : ℕ). x) first n j e ∙ ap (λ l. l ++ j ∷ []) (map-id (range_with_len first n)))

-- the counter stands for one draw more
pub counted : (first next who : ℕ) (history : List (ℕ × ℕ)) → IsCounter first next history → IsCounter first (next + 1) (history ++ (who, next) ∷ [])
counted first next who history is =
    let count : length (history ++ (who, next) ∷ []) ≡ length history + 1 = length-append history ((who, next) ∷ []) in
    let next_is = is.0 in (
      omega (arith, count),
      map-append (λ (x : ℕ × ℕ). x.1) history ((who, next) ∷ []) ∙ (ap (λ l. l ++ next ∷ []) is.1 ∙ (sym (range_more first (length history) next (sym next_is)) ∙ ap (range_with_len first) (sym count))),
    )

-- what a new pass got in its one turn is all that it has in the history
pub got_alone : {H : Type 0} (at_first old new : PassState ℕ H) (number : ℕ) (history : List (ℕ × ℕ)) → old ≡ at_first → at_first.mine ≡ [] → HasGot old new number → entries_of new.number history ≡ new.mine →
    entries_of at_first.number history ≡ number ∷ []
got_alone at_first old new number history is blank got exact =
    ap (λ n. entries_of n history) (sym (got.1 ∙ ap (λ p. p.number) is)) ∙ (exact ∙ (got.2 ∙ ap (λ l. l ++ number ∷ []) (ap (λ p. p.mine) is ∙ blank)))

-- the two passes that are popped off a list of two, the last one first
pub two_popped : {X : Type 0} (p q a b : X) (xs ys zs : List X) → xs ≡ p ∷ q ∷ [] → xs ≡ ys ++ b ∷ [] → ys ≡ zs ++ a ∷ [] → (a ≡ p) × (b ≡ q) × (zs ≡ [])
two_popped p q a b xs ys zs e f h = popped zs (sym (ap (λ l. l ++ b ∷ []) h) ∙ (sym f ∙ e))
  where
    popped : (l : List _) → (l ++ a ∷ []) ++ b ∷ [] ≡ p ∷ q ∷ [] → (a ≡ p) × (b ≡ q) × (l ≡ [])
    popped [] k = (cc k, cc k, refl)
    popped (x ∷ []) k = absurd (cc k)
    popped (x ∷ y ∷ []) k = absurd (cc k)
    popped (x ∷ y ∷ z ∷ l) k = absurd (cc k)
