-- Facts on lists and options that the proofs of this crate share.
use Rattle.std.proofs.Common.{◌≡◌, ◌≢◌, ℕ, zero, suc, ◌+◌, ◌≤◌, ◌&&◌, ◌||◌, ◌==◌, Bool, true, false, not, cond, List, [], ◌∷◌, length, get_or, set, map, count_by, Option, Some, None, option_map, sym, ◌∙◌, ap, ap₂, refl, arith, ⊎_elim}
use Rattle.std.specs.List.{list_any, filter}
use Rattle.std.proofs.lemmas.Bool.{both_ways, cases_eq, eq-eqb, ne_eqb, eqb-true}
use Rattle.std.proofs.lemmas.List.Sums.{length-filter}
use Rattle.std.proofs.lemmas.List.Filters.{length-filter_both}
use Rattle.kmem_model.specs.CacheOrder.{is_the}
use Rattle.kmem_model.proofs.CacheLists.{count-cons}

-- Counts

pub any_counted : {X : Type 0} (p : X → Bool) (xs : List X) → list_any p xs ≡ true → 1 ≤ count_by p xs
any_counted p [] any = absurd (both_ways false refl any)
any_counted p (x ∷ xs) any = by (p x) refl (any_counted p xs)
  where
    by : (b : Bool) → p x ≡ b → (list_any p xs ≡ true → 1 ≤ count_by p xs) → 1 ≤ count_by p (x ∷ xs)
    by true e more = omega (arith, count-cons p x xs, ap {B = ℕ} (λ c. cond c 1 0) e)
    by false e more = omega (arith, count-cons p x xs, more (sym (ap (λ c. c || list_any p xs) e) ∙ any))

pub count_none : {X : Type 0} (p : Option X → Bool) (xs : List (Option X)) → ((i : ℕ) → p (get_or xs i None) ≡ false) → count_by p xs ≡ 0
count_none p [] none = refl
count_none p (x ∷ xs) none =
    omega (arith, count-cons p x xs, ap {B = ℕ} (λ c. cond c 1 0) (none 0), count_none p xs (λ i. none (suc i)))

-- Reads

-- a write that the test doesn't see
pub read-set : {X Y : Type 0} (p : X → Y) (xs : List X) (i j : ℕ) (y d : X) → p y ≡ p (get_or xs i d) → p (get_or (set xs i y) j d) ≡ p (get_or xs j d)
read-set p [] i j y d same = refl
read-set p (x ∷ xs) zero zero y d same = same
read-set p (x ∷ xs) zero (suc j) y d same = refl
read-set p (x ∷ xs) (suc i) zero y d same = refl
read-set p (x ∷ xs) (suc i) (suc j) y d same = read-set p xs i j y d same

pub read-map : {X Y : Type 0} (f : X → Y) (xs : List (Option X)) (i : ℕ) → get_or (map (option_map f) xs) i None ≡ option_map f (get_or xs i None)
read-map f [] i = refl
read-map f (x ∷ xs) zero = refl
read-map f (x ∷ xs) (suc i) = read-map f xs i

pub map_agree : {X Y : Type 0} (f g : X → Y) (xs : List (Option X)) → ((i : ℕ) (x : X) → get_or xs i None ≡ Some x → f x ≡ g x) → map (option_map f) xs ≡ map (option_map g) xs
map_agree f g [] agree = refl
map_agree {X = X} {Y = Y} f g (x ∷ xs) agree = ap₂ (λ (a : Option Y) (rest : List (Option Y)). a ∷ rest) (at x (agree 0)) (map_agree f g xs (λ i. agree (suc i)))
  where
    at : (o : Option X) → ((y : X) → o ≡ Some y → f y ≡ g y) → option_map f o ≡ option_map g o
    at None h = refl
    at (Some y) h = ap Some (h y refl)

-- Numbers that are there

pub is_the-other : (o : Option ℕ) (b c : ℕ) → o ≡ Some b → c ≢ b → is_the o c ≡ false
is_the-other o b c e apart = ap (λ a. is_the a c) e ∙ ne_eqb b c (λ same. apart (sym same))

pub is_the-none : (o : Option ℕ) (b : ℕ) → o ≡ None → is_the o b ≡ false
is_the-none o b e = ap (λ a. is_the a b) e

-- of ids with apart addresses as many lead to an id as to its address
pub count_apart : (at : ℕ → ℕ) (id : ℕ) (xs : List (Option ℕ)) → ((i j : ℕ) → get_or xs i None ≡ Some j → at j ≡ at id → j ≡ id) →
    count_by (λ a. is_the a (at id)) (map (option_map at) xs) ≡ count_by (λ a. is_the a id) xs
count_apart at id [] apart = refl
count_apart at id (x ∷ xs) apart =
    count-cons (λ a. is_the a (at id)) (option_map at x) (map (option_map at) xs)
    ∙ (ap₂ (λ (b : Bool) (n : ℕ). cond b 1 0 + n) (one x (apart 0)) (count_apart at id xs (λ i. apart (suc i))) ∙ sym (count-cons (λ a. is_the a id) x xs))
  where
    one : (o : Option ℕ) → ((j : ℕ) → o ≡ Some j → at j ≡ at id → j ≡ id) → is_the (option_map at o) (at id) ≡ is_the o id
    one None h = refl
    one (Some j) h =
        ⊎_elim (λ same. eq-eqb (at j) (at id) (ap at same) ∙ sym (eq-eqb j id same)) (λ far. ne_eqb (at j) (at id) (λ e. far (h j refl e)) ∙ sym (ne_eqb j id far)) (cases_eq j id)

-- Back references

pub any-without : (name other : ℕ) (xs : List ℕ) → list_any (λ o. o == other) (filter (λ o. not (o == name)) xs) ≡ (list_any (λ o. o == other) xs && not (other == name))
any-without name other [] = refl
any-without name other (x ∷ xs) = by (x == name) refl (any-without name other xs)
  where
    one : (a b c : Bool) → (a ≡ true → c ≡ true) → (a || (b && c)) ≡ ((a || b) && c)
    one true b c h = sym (h refl)
    one false b c h = refl

    gone : (a b c : Bool) → (a ≡ true → c ≡ false) → (b && c) ≡ ((a || b) && c)
    gone true b true h = absurd (both_ways true (h refl) refl)
    gone true true false h = refl
    gone true false false h = refl
    gone false b c h = refl

    by : (t : Bool) → (x == name) ≡ t → list_any (λ o. o == other) (filter (λ o. not (o == name)) xs) ≡ (list_any (λ o. o == other) xs && not (other == name)) → list_any (λ o. o == other) (filter (λ o. not (o == name)) (x ∷ xs)) ≡ (list_any (λ o. o == other) (x ∷ xs) && not (other == name))
    by true e more =
        ap (λ t. list_any (λ o. o == other) (cond (not t) (x ∷ filter (λ o. not (o == name)) xs) (filter (λ o. not (o == name)) xs))) e
        ∙ (more
        ∙ gone (x == other) (list_any (λ o. o == other) xs) (not (other == name)) (λ h. ap not (eq-eqb other name (sym (eqb-true x other h) ∙ eqb-true x name e))))
    by false e more =
        ap (λ t. list_any (λ o. o == other) (cond (not t) (x ∷ filter (λ o. not (o == name)) xs) (filter (λ o. not (o == name)) xs))) e
        ∙ (ap (λ t. (x == other) || t) more
        ∙ one (x == other) (list_any (λ o. o == other) xs) (not (other == name)) (λ h. ap not (sym (ap (λ n. n == name) (eqb-true x other h)) ∙ e)))

pub length-without : (name : ℕ) (xs : List ℕ) → count_by (λ o. o == name) xs ≤ 1 → list_any (λ o. o == name) xs ≡ true →
    length (filter (λ o. not (o == name)) xs) + 1 ≡ length xs
length-without name xs most any =
    omega (
      arith,
      most,
      any_counted (λ o. o == name) xs any,
      length-filter (λ o. o == name) xs,
      length-filter_both (λ o. o == name) (λ o. not (o == name)) (λ x. refl) xs,
    )

-- a filter keeps no more of any
pub count-filter-le : {X : Type 0} (p q : X → Bool) (xs : List X) → count_by p (filter q xs) ≤ count_by p xs
count-filter-le p q [] = omega arith
count-filter-le p q (x ∷ xs) = by (q x) refl (count-filter-le p q xs)
  where
    by : (t : Bool) → q x ≡ t → count_by p (filter q xs) ≤ count_by p xs → count_by p (filter q (x ∷ xs)) ≤ count_by p (x ∷ xs)
    by true e more =
        omega (arith, ap {B = ℕ} (λ t. count_by p (cond t (x ∷ filter q xs) (filter q xs))) e, count-cons p x (filter q xs), count-cons p x xs)
    by false e more = omega (arith, ap {B = ℕ} (λ t. count_by p (cond t (x ∷ filter q xs) (filter q xs))) e, count-cons p x xs)

pub or_nothing : (x y : Bool) → y ≡ false → (x || y) ≡ x
or_nothing true y e = refl
or_nothing false y e = e
