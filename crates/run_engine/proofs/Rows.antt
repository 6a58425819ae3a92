-- Lists that are numbered or dealt in order.
use Rattle.std.proofs.Common.{◌≡◌, ◌+◌, ◌<◌, ℕ, zero, suc, List, [], ◌∷◌, ◌++◌, length, map, get_or, All, refl, sym, ap, ap₂, ◌∙◌, arith}
use Rattle.std.specs.List.{range_with_len}
use Rattle.std.proofs.lemmas.List.{length-append, length-map, get_or-map}
use Rattle.std.proofs.lemmas.List.Elements.{All-get_or}
use Rattle.std.proofs.lemmas.List.FromFn.{length-range_with_len, get_or-range_with_len}
use Rattle.hist_lock.specs.Passes.{Site, fresh, fresh_passes}

-- two lists with a last element each that are equal
pub same_front : {A : Type 0} (xs ys : List A) (x y : A) → xs ++ x ∷ [] ≡ ys ++ y ∷ [] → (xs ≡ ys) × (x ≡ y)
same_front [] [] x y e = (refl, (cc))
same_front [] (b ∷ bs) x y e = absurd (omega (arith, ap length e, length-append bs (y ∷ [])))
same_front (a ∷ us) [] x y e = absurd (omega (arith, ap length e, length-append us (x ∷ [])))
same_front (a ∷ us) (b ∷ bs) x y e =
    let heads : a ≡ b = cc in let tails : us ++ x ∷ [] ≡ bs ++ y ∷ [] = cc in let rest = same_front us bs x y tails in
    (ap₂ (λ c cs. c ∷ cs) heads rest.0, rest.1)

pub map-push : {A B : Type 0} (f : A → B) (xs : List A) (x : A) → map f (xs ++ x ∷ []) ≡ map f xs ++ f x ∷ []
map-push f [] x = refl
map-push f (y ∷ ys) x = ap (λ l. f y ∷ l) (map-push f ys x)

pub range-push : (a n : ℕ) → range_with_len a (suc n) ≡ range_with_len a n ++ (a + n) ∷ []
range-push a zero = ap (λ k. k ∷ []) (omega arith)
range-push a (suc n) =
    let on : a + 1 + n ≡ a + suc n = omega arith in
    ap (λ l. a ∷ l) (range-push (a + 1) n ∙ ap (λ k. range_with_len (a + 1) n ++ k ∷ []) on)

pub range-first : (n : ℕ) → range_with_len 0 (suc n) ≡ range_with_len 0 n ++ n ∷ []
range-first n = let here : 0 + n ≡ n = omega arith in range-push 0 n ∙ ap (λ k. range_with_len 0 n ++ k ∷ []) here

pub fresh-push : {E H : Type 0} (site : Site H) (a : ℕ) (quotas : List ℕ) (quota : ℕ) →
    fresh_passes {E = E} site a (quotas ++ quota ∷ []) ≡ fresh_passes site a quotas ++ fresh site (a + length quotas) quota ∷ []
fresh-push site a [] quota = ap (λ k. fresh site k quota ∷ []) (omega arith)
fresh-push site a (q ∷ qs) quota =
    let on : a + 1 + length qs ≡ a + suc (length qs) = omega arith in
    ap (λ l. fresh site a q ∷ l) (fresh-push site (a + 1) qs quota ∙ ap (λ k. fresh_passes site (a + 1) qs ++ fresh site k quota ∷ []) on)

-- the same from 0 on
pub fresh-first : {E H : Type 0} (site : Site H) (quotas : List ℕ) (quota : ℕ) →
    fresh_passes {E = E} site 0 (quotas ++ quota ∷ []) ≡ fresh_passes site 0 quotas ++ fresh site (length quotas) quota ∷ []
fresh-first site quotas quota =
    let here : 0 + length quotas ≡ length quotas = omega arith in
    fresh-push site 0 quotas quota ∙ ap (λ k. fresh_passes site 0 quotas ++ fresh site k quota ∷ []) here

pub length-fresh : (E : Type 0) {H : Type 0} (site : Site H) (a : ℕ) (quotas : List ℕ) → length (fresh_passes {E = E} site a quotas) ≡ length quotas
length-fresh E site a [] = refl
length-fresh E site a (q ∷ qs) = ap (λ k. suc k) (length-fresh E site (a + 1) qs)

-- the element with a number, where the elements are numbered from 0
pub found : {A : Type 0} (P : A → Type 0) (number : A → ℕ) (xs : List A) (n k : ℕ) → All P xs → map number xs ≡ range_with_len 0 n → k < n → (x : A) × (number x ≡ k) × P x
found P number [] n k all e small = absurd (omega (arith, small, ap length e, length-range_with_len 0 n))
found P number (x ∷ xs) n k all e small =
    let ys = x ∷ xs in
    let here : 0 + k ≡ k = omega arith in
    let inside : k < length ys = omega (arith, small, ap length e, length-map ys number, length-range_with_len 0 n) in (
      get_or ys k x,
      sym (get_or-map number ys k x 0 inside) ∙ (ap (λ l. get_or l k 0) e ∙ (get_or-range_with_len 0 n k 0 small ∙ here)),
      All-get_or P ys k x inside all,
    )
