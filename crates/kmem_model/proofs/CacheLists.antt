-- Facts on lists that the proofs of this crate share.
use Rattle.std.proofs.Common.{◌≡◌, ◌≢◌, ℕ, zero, suc, ◌+◌, ◌<◌, ◌≤◌, Bool, true, false, cond, List, [], ◌∷◌, map, length, get_or, set, replicate, All, count_by, option_map, Option, Some, None, is_some, ◌⊎◌, inl, inr, ⊎_elim, sym, ◌∙◌, ap, ap₂, refl, arith}
use Rattle.std.specs.List.{list_any}
use Rattle.std.proofs.lemmas.Bool.{cases_lt, both_ways, cases_Bool}
use Rattle.std.proofs.lemmas.List.{get_or_past, get_or-set_other, set_past}
use Rattle.std.proofs.lemmas.List.Sums.{sum_by-cons, sum_by-set, get_or-le-sum_by}

-- a read that passes a test which the default fails is inside the list
pub reads_within : {X : Type 0} (xs : List X) (i : ℕ) (d : X) (test : X → Bool) → test d ≡ false → test (get_or xs i d) ≡ true → i < length xs
reads_within xs i d test default passes =
    ⊎_elim (λ below. below)
    (λ past. absurd (both_ways (test d) default (ap test (sym (get_or_past xs i d past)) ∙ passes)))
    (cases_lt i (length xs))

-- a map read at any place, with the default mapped too
pub get_or-map_default : {X Y : Type 0} (f : X → Y) (xs : List X) (i : ℕ) (d : X) → get_or (map f xs) i (f d) ≡ f (get_or xs i d)
get_or-map_default f [] i d = refl
get_or-map_default f (x ∷ xs) zero d = refl
get_or-map_default f (x ∷ xs) (suc i) d = get_or-map_default f xs i d

-- a map, then another
pub map-map : {X Y Z : Type 0} (f : X → Y) (g : Y → Z) (xs : List X) → map g (map f xs) ≡ map (λ x. g (f x)) xs
map-map f g [] = refl
map-map f g (x ∷ xs) = ap (λ ys. g (f x) ∷ ys) (map-map f g xs)

-- two maps that agree at each element
pub map_agree : {X Y : Type 0} (f g : X → Y) (xs : List X) → ((i : ℕ) (d : X) → i < length xs → f (get_or xs i d) ≡ g (get_or xs i d)) → map f xs ≡ map g xs
map_agree f g [] same = refl
map_agree f g (x ∷ xs) same =
    ap₂ (λ y ys. y ∷ ys) (same 0 x (omega arith)) (map_agree f g xs (λ i d below. same (suc i) d (omega arith)))

pub count-cons : {X : Type 0} (p : X → Bool) (x : X) (xs : List X) → count_by p (x ∷ xs) ≡ cond (p x) 1 0 + count_by p xs
count-cons p x xs = sum_by-cons (λ y. cond (p y) 1 0) x xs

-- a write that a map doesn't see
pub map-set_unseen : {X Y : Type 0} (f : X → Y) (xs : List X) (i : ℕ) (y d : X) → f y ≡ f (get_or xs i d) → map f (set xs i y) ≡ map f xs
map-set_unseen f [] i y d same = refl
map-set_unseen f (x ∷ xs) zero y d same = ap (λ z. z ∷ map f xs) same
map-set_unseen f (x ∷ xs) (suc i) y d same = ap (λ zs. f x ∷ zs) (map-set_unseen f xs i y d same)

-- a count after a map
pub count-map : {X Y : Type 0} (f : X → Y) (p : Y → Bool) (xs : List X) → count_by p (map f xs) ≡ count_by (λ x. p (f x)) xs
count-map f p [] = refl
count-map f p (x ∷ xs) =
    count-cons p (f x) (map f xs) ∙ (ap (λ n. cond (p (f x)) 1 0 + n) (count-map f p xs) ∙ sym (count-cons (λ x. p (f x)) x xs))

-- how many flags are set after one is written
pub count-set : {X : Type 0} (p : X → Bool) (xs : List X) (i : ℕ) (y d : X) → i < length xs → count_by p (set xs i y) + cond (p (get_or xs i d)) 1 0 ≡ count_by p xs + cond (p y) 1 0
count-set p xs i y d below = sum_by-set (λ x. cond (p x) 1 0) xs i y d below

-- a write that the test doesn't see
pub count-set_same : {X : Type 0} (p : X → Bool) (xs : List X) (i : ℕ) (y d : X) → p y ≡ p (get_or xs i d) → count_by p (set xs i y) ≡ count_by p xs
count-set_same p xs i y d same =
    ⊎_elim (λ below. omega (arith, count-set p xs i y d below, ap {B = ℕ} (λ b. cond b 1 0) same)) (λ past. ap (count_by p) (set_past xs i y past)) (cases_lt i (length xs))

pub count-set_more : {X : Type 0} (p : X → Bool) (xs : List X) (i : ℕ) (y d : X) → i < length xs → p (get_or xs i d) ≡ false → p y ≡ true →
    count_by p (set xs i y) ≡ count_by p xs + 1
count-set_more p xs i y d below was is =
    omega (arith, count-set p xs i y d below, ap {B = ℕ} (λ b. cond b 1 0) was, ap {B = ℕ} (λ b. cond b 1 0) is)

pub count-set_less : {X : Type 0} (p : X → Bool) (xs : List X) (i : ℕ) (y d : X) → i < length xs → p (get_or xs i d) ≡ true → p y ≡ false →
    count_by p (set xs i y) + 1 ≡ count_by p xs
count-set_less p xs i y d below was is =
    omega (arith, count-set p xs i y d below, ap {B = ℕ} (λ b. cond b 1 0) was, ap {B = ℕ} (λ b. cond b 1 0) is)

-- what passes is counted
pub counted : {X : Type 0} (p : X → Bool) (xs : List X) (i : ℕ) (d : X) → i < length xs → p (get_or xs i d) ≡ true → 1 ≤ count_by p xs
counted p xs i d below passes =
    omega (arith, get_or-le-sum_by (λ x. cond (p x) 1 0) xs i d below, ap {B = ℕ} (λ b. cond b 1 0) passes)

-- none passes where the count is 0
pub none_from_count : {X : Type 0} (p : X → Bool) (xs : List X) → count_by p xs ≡ 0 → All (λ x. p x ≡ false) xs
none_from_count p [] none i d below = absurd (omega arith)
none_from_count p (x ∷ xs) none zero d below =
    ⊎_elim (λ yes. absurd (omega (arith, count-cons p x xs, none, ap {B = ℕ} (λ b. cond b 1 0) yes))) (λ no. no) (cases_Bool (p x))
none_from_count p (x ∷ xs) none (suc i) d below =
    none_from_count p xs (omega (arith, count-cons p x xs, none)) i d (omega arith)

-- the count is 0 where none passes
pub count_from_none : {X : Type 0} (p : X → Bool) (xs : List X) → All (λ x. p x ≡ false) xs → count_by p xs ≡ 0
count_from_none p [] none = refl
count_from_none p (x ∷ xs) none =
    let rest : count_by p xs ≡ 0 = count_from_none p xs (λ i d below. none (suc i) d (omega arith)) in
    let head : ◌≡◌ {A = ℕ} (cond (p x) 1 0) 0 = ap {B = ℕ} (λ b. cond b 1 0) (none 0 x (omega arith)) in
    omega (arith, count-cons p x xs)

-- whether any is there, after a map
pub any-map : {X Y : Type 0} (f : X → Y) (xs : List (Option X)) → list_any is_some (map (option_map f) xs) ≡ list_any is_some xs
any-map f [] = refl
any-map f (None ∷ xs) = any-map f xs
any-map f (Some x ∷ xs) = refl

-- what is read is there
pub any_from_read : {X : Type 0} (xs : List (Option X)) (i : ℕ) (x : X) → get_or xs i None ≡ Some x → list_any is_some xs ≡ true
any_from_read [] i x e = absurd (cc)
any_from_read (Some y ∷ xs) i x e = refl
any_from_read (None ∷ xs) zero x e = absurd (cc)
any_from_read (None ∷ xs) (suc i) x e = any_from_read xs i x e

-- where any is there, any is after one is written
pub any-set_some : {X : Type 0} (xs : List (Option X)) (i : ℕ) (x : X) → list_any is_some xs ≡ true → list_any is_some (set xs i (Some x)) ≡ true
any-set_some [] i x e = e
any-set_some (y ∷ xs) zero x e = refl
any-set_some (Some y ∷ xs) (suc i) x e = refl
any-set_some (None ∷ xs) (suc i) x e = any-set_some xs i x e

-- the count is the length where each passes
pub count_all : {X : Type 0} (p : X → Bool) (xs : List X) (d : X) → ((i : ℕ) → i < length xs → p (get_or xs i d) ≡ true) →
    count_by p xs ≡ length xs
count_all p [] d all = refl
count_all p (x ∷ xs) d all =
    let rest : count_by p xs ≡ length xs = count_all p xs d (λ i below. all (suc i) (omega arith)) in
    let head : ◌≡◌ {A = ℕ} (cond (p x) 1 0) 1 = ap {B = ℕ} (λ b. cond b 1 0) (all 0 (omega arith)) in
    omega (arith, count-cons p x xs)

pub map-replicate : {X Y : Type 0} (f : X → Y) (n : ℕ) (x : X) → map f (replicate n x) ≡ replicate n (f x)
map-replicate f zero x = refl
map-replicate f (suc n) x = ap (λ ys. f x ∷ ys) (map-replicate f n x)

-- where all places are empty nothing is read
pub get_or-replicate_none : {X : Type 0} (n i : ℕ) → get_or {A = Option X} (replicate n None) i None ≡ None
get_or-replicate_none zero i = refl
get_or-replicate_none (suc n) zero = refl
get_or-replicate_none (suc n) (suc i) = get_or-replicate_none n i

-- a place that was cleared is empty
pub get_or-set_none : {X : Type 0} (xs : List (Option X)) (i : ℕ) → get_or (set xs i None) i None ≡ None
get_or-set_none [] i = refl
get_or-set_none (x ∷ xs) zero = refl
get_or-set_none (x ∷ xs) (suc i) = get_or-set_none xs i

-- what is left after a place is cleared stood there before, at another place
pub read_after_clear : {X : Type 0} (xs : List (Option X)) (i j : ℕ) (x : X) → get_or (set xs i None) j None ≡ Some x → (j ≢ i) × (get_or xs j None ≡ Some x)
read_after_clear xs i j x e =
    let apart : j ≢ i = λ same. absurd (absurd_none (sym (get_or-set_none xs i) ∙ ap (λ k. get_or (set xs i None) k None) (sym same) ∙ e)) in
    (apart, sym (get_or-set_other xs i j None None apart) ∙ e)
  where
    absurd_none : None ≡ Some x → ⊥
    absurd_none h = cc

-- what is read after a write is what was written, or stood there before at another place
pub read_after_write : {X : Type 0} (xs : List (Option X)) (i j : ℕ) (x y : X) → get_or (set xs i (Some y)) j None ≡ Some x →
    ((j ≡ i) × (y ≡ x)) ⊎ ((j ≢ i) × (get_or xs j None ≡ Some x))
read_after_write [] i j x y e = absurd (cc)
read_after_write (z ∷ xs) zero zero x y e = inl (refl, (cc))
read_after_write (z ∷ xs) zero (suc j) x y e = inr ((λ same. omega (arith, same)), e)
read_after_write (z ∷ xs) (suc i) zero x y e = inr ((λ same. omega (arith, same)), e)
read_after_write (z ∷ xs) (suc i) (suc j) x y e =
    ⊎_elim (λ h. inl (ap suc h.0, h.1)) (λ h. inr ((λ same. h.0 (omega (arith, same))), h.1)) (read_after_write xs i j x y e)

-- where none passes, a read fails
pub passes_none : {X : Type 0} (p : X → Bool) (xs : List X) (i : ℕ) {d : X} → p d ≡ false → count_by p xs ≡ 0 → p (get_or xs i d) ≡ false
passes_none p xs i {d} fails none = ⊎_elim (λ below. none_from_count p xs none i d below) (λ past. ap p (get_or_past xs i d past) ∙ fails) (cases_lt i (length xs))
