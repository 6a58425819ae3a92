-- Sums of a tally, for the crate's tests.
use Rattle.std.proofs.Common.{◌≡◌, ◌==◌, ℕ, ◌+◌, ◌^◌, ◌<◌, ◌≤◌, List, [], ◌∷◌, ◌++◌, map, length, All, cond, ap, sym, ◌∙◌, refl, arith, eq-eqb, ne_eqb}
use Rattle.std.proofs.lemmas.List.{append-nil}
use Rattle.std.proofs.lemmas.List.Sums.{sum_by-le, sum_by-cons}
use Rattle.std.specs.List.{filter}
use Rattle.std.proofs.lemmas.List.Elements.{All-weaker}
use mathlib.Core.Logic.{dite}
use native.Mathlib.Decide.{ℕ_discrete}
use Rattle.hist_lock.specs.History.{IsFront, entries_of}
use Rattle.hist_lock.proofs.Moves.{entries_of-append}
use Rattle.hist_lock.specs.Passes.{Site, PassState}
use Rattle.hist_lock.specs.Tally.{sum_of, IsTally, sums_before, IsDone}

-- one more amount fits, where the entries can be counted
pub tally_fits : (total adds most amount : ℕ) (history : List (ℕ × ℕ)) → IsTally total adds most history → amount ≤ most → length history + 1 < 2 ^ 32 → total + amount < 2 ^ 64
tally_fits total adds most amount history is fits count =
    let each : All (λ (x : ℕ × ℕ). x.1 ≤ 4294967295) history = All-weaker (λ (x : ℕ × ℕ). x.1 ≤ most) (λ (x : ℕ × ℕ). x.1 ≤ 4294967295) (λ x le. let small = is.3 in omega arith) history is.2 in
    let small = is.3 in omega (arith, is.0, sum_by-le (λ (x : ℕ × ℕ). x.1) 4294967295 history each)

-- one more entry of the pass, which found the sum before it
pub sums_before-own : (more number amount : ℕ) (history : List (ℕ × ℕ)) → sums_before more number (history ++ (number, amount) ∷ []) ≡ sums_before more number history ++ (more + sum_of history) ∷ []
sums_before-own more number amount [] = ap (λ b. cond b (more ∷ []) []) (eq-eqb number number refl) ∙ (let e : more ≡ more + 0 = omega arith in ap (λ n. n ∷ []) e)
sums_before-own more number amount (x ∷ xs) =
    let rest = sums_before (more + x.1) number xs in
    let e : more + x.1 + sum_of xs ≡ more + sum_of (x ∷ xs) = omega (arith, sum_by-cons (λ (y : ℕ × ℕ). y.1) x xs) in
    let more_is : sums_before (more + x.1) number (xs ++ (number, amount) ∷ []) ≡ rest ++ (more + sum_of (x ∷ xs)) ∷ [] = sums_before-own (more + x.1) number amount xs ∙ ap (λ n. rest ++ n ∷ []) e in
    dite (ℕ_discrete x.0 number)
    (λ same. let yes = eq-eqb x.0 number same in
    ap (λ b. cond b (more ∷ sums_before (more + x.1) number (xs ++ (number, amount) ∷ [])) (sums_before (more + x.1) number (xs ++ (number, amount) ∷ []))) yes
    ∙ (ap (λ l. more ∷ l) more_is ∙ ap (λ b. cond b (more ∷ rest) rest ++ (more + sum_of (x ∷ xs)) ∷ []) (sym yes)))
    (λ other. let no = ne_eqb x.0 number other in
    ap (λ b. cond b (more ∷ sums_before (more + x.1) number (xs ++ (number, amount) ∷ [])) (sums_before (more + x.1) number (xs ++ (number, amount) ∷ []))) no
    ∙ (more_is ∙ ap (λ b. cond b (more ∷ rest) rest ++ (more + sum_of (x ∷ xs)) ∷ []) (sym no)))

-- entries of other passes behind it change nothing
none_before : (more number : ℕ) (later : List (ℕ × ℕ)) → entries_of number later ≡ [] → sums_before more number later ≡ []
none_before more number [] e = refl
none_before more number (x ∷ xs) e = dite (ℕ_discrete x.0 number)
    (λ same. let kept = filter (λ (y : ℕ × ℕ). y.0 == number) xs in
    let had : x.1 ∷ entries_of number xs ≡ [] = ap (λ b. map (λ (y : ℕ × ℕ). y.1) (cond b (x ∷ kept) kept)) (sym (eq-eqb x.0 number same)) ∙ e in absurd (cc had))
    (λ other. let no = ne_eqb x.0 number other in let kept = filter (λ (y : ℕ × ℕ). y.0 == number) xs in
    let fewer : entries_of number xs ≡ [] = ap (λ b. map (λ (y : ℕ × ℕ). y.1) (cond b (x ∷ kept) kept)) (sym no) ∙ e in
    ap (λ b. cond b (more ∷ sums_before (more + x.1) number xs) (sums_before (more + x.1) number xs)) no ∙ none_before (more + x.1) number xs fewer)

sums_before-append : (more number : ℕ) (seen later : List (ℕ × ℕ)) → sums_before more number (seen ++ later) ≡ sums_before more number seen ++ sums_before (more + sum_of seen) number later
sums_before-append more number [] later = let e : more ≡ more + 0 = omega arith in ap (λ n. sums_before n number later) e
sums_before-append more number (x ∷ xs) later =
    let e : more + x.1 + sum_of xs ≡ more + sum_of (x ∷ xs) = omega (arith, sum_by-cons (λ (y : ℕ × ℕ). y.1) x xs) in
    let rest = sums_before (more + x.1) number xs in let after = sums_before (more + sum_of (x ∷ xs)) number later in
    let ih : sums_before (more + x.1) number (xs ++ later) ≡ rest ++ after = sums_before-append (more + x.1) number xs later ∙ ap (λ n. rest ++ sums_before n number later) e in
    dite (ℕ_discrete x.0 number)
    (λ same. let yes = eq-eqb x.0 number same in let all = sums_before (more + x.1) number (xs ++ later) in
    ap (λ b. cond b (more ∷ all) all) yes ∙ (ap (λ l. more ∷ l) ih ∙ ap (λ b. cond b (more ∷ rest) rest ++ after) (sym yes)))
    (λ other. let no = ne_eqb x.0 number other in let all = sums_before (more + x.1) number (xs ++ later) in
    ap (λ b. cond b (more ∷ all) all) no ∙ (ih ∙ ap (λ b. cond b (more ∷ rest) rest ++ after) (sym no)))

-- what a pass's turns found is the same in a longer history with no more entries of the pass
pub same_before : (number : ℕ) (seen history : List (ℕ × ℕ)) (mine : List ℕ) → IsFront seen history → entries_of number seen ≡ mine → entries_of number history ≡ mine → sums_before 0 number history ≡ sums_before 0 number seen
same_before number seen history mine front before now =
    let later = front.0 in
    let joined : entries_of number seen ++ entries_of number later ≡ entries_of number seen =
    sym (entries_of-append number seen later) ∙ (ap (entries_of number) front.1 ∙ (now ∙ sym before)) in
    let none : entries_of number later ≡ [] = nothing_more (entries_of number seen) (entries_of number later) joined in
    ap (sums_before 0 number) (sym front.1) ∙ (sums_before-append 0 number seen later ∙ (ap (λ l. sums_before 0 number seen ++ l) (none_before (0 + sum_of seen) number later none) ∙ append-nil (sums_before 0 number seen)))
  where
    nothing_more : (xs ys : List ℕ) → xs ++ ys ≡ xs → ys ≡ []
    nothing_more [] ys e = e
    nothing_more (x ∷ xs) ys e = nothing_more xs ys (cc e)

-- the two passes that are popped off a list of two, the last one first
pub two_popped : {X : Type 0} (p q a b : X) (xs ys zs : List X) → xs ≡ p ∷ q ∷ [] → xs ≡ ys ++ b ∷ [] → ys ≡ zs ++ a ∷ [] → (a ≡ p) × (b ≡ q) × (zs ≡ [])
two_popped p q a b xs ys zs e f h = popped zs (sym (ap (λ l. l ++ b ∷ []) h) ∙ (sym f ∙ e))
  where
    popped : (l : List _) → (l ++ a ∷ []) ++ b ∷ [] ≡ p ∷ q ∷ [] → (a ≡ p) × (b ≡ q) × (l ≡ [])
    popped [] k = (cc k, cc k, refl)
    popped (x ∷ []) k = absurd (cc k)
    popped (x ∷ y ∷ []) k = absurd (cc k)
    popped (x ∷ y ∷ z ∷ l) k = absurd (cc k)

-- what a pass found is what the whole history has before each of its entries
pub found_whole : (site : Site ℕ) (number : ℕ) (pass : PassState ℕ ℕ) (found : List ℕ) (history : List (ℕ × ℕ)) → IsDone site number pass found → IsFront pass.seen history → entries_of pass.number history ≡ pass.mine
    → found ≡ sums_before 0 number history
found_whole site number pass found history done front exact =
    done.3 ∙ sym (same_before number pass.seen history pass.mine front done.4 (ap (λ n. entries_of n history) (sym done.1) ∙ exact))
