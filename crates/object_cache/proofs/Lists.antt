-- Facts on lists and options that the proofs of this crate share.
use Rattle.std.proofs.Common.{◌≡◌, ℕ, zero, suc, ◌+◌, ◌*◌, ◌/◌, ◌%◌, ◌<◌, ◌≤◌, ◌&&◌, ◌||◌, nat_lt, ◌==◌, set, ap₂, subst, add-zero, Bool, true, false, cond, List, [], ◌∷◌, length, get_or, count_by, Option, Some, None, is_some, option_map, sym, ◌∙◌, ap, refl, arith, ⊎_elim}
use Rattle.std.specs.List.{list_all, list_any}
use Rattle.std.specs.Option.{option_or}
use Rattle.std.proofs.lemmas.Bool.{both_ways, cases_lt, cases_eq, lt-ltb, eq-eqb, ne_eqb}
use Rattle.std.proofs.lemmas.Nat.{div-mul-add, mod-mul-add}
use Rattle.std.proofs.lemmas.List.{get_or_past, get_or-set_same, get_or-set_other, length-set}
use Rattle.std.proofs.lemmas.List.Sums.{sum_by-cons, sum_by-set, count_by-le-length}

pub or_none : (a b : Option ℕ) → option_or a b ≡ None → (a ≡ None) × (b ≡ None)
or_none None b e = (refl, e)
or_none (Some x) b e = absurd (cc)

pub map_none : (f : ℕ → ℕ) (a : Option ℕ) → option_map f a ≡ None → a ≡ None
map_none f None e = refl
map_none f (Some x) e = absurd (cc)

-- where one fails, not all pass
pub not_all : {X : Type 0} (p : X → Bool) (xs : List X) (i : ℕ) (d : X) → i < length xs → p (get_or xs i d) ≡ false → list_all p xs ≡ false
not_all p [] i d below e = absurd (omega arith)
not_all p (x ∷ xs) zero d below e = ap (λ b. b && list_all p xs) e
not_all p (x ∷ xs) (suc i) d below e = both (p x) (list_all p xs) (not_all p xs i d (omega arith) e)
  where
    both : (a b : Bool) → b ≡ false → (a && b) ≡ false
    both true b h = h
    both false b h = refl

-- what passes a test that the default fails is read inside the list
pub reads_within : {X : Type 0} (xs : List X) (i : ℕ) (d : X) (test : X → Bool) → test d ≡ false → test (get_or xs i d) ≡ true → i < length xs
reads_within xs i d test default passes =
    ⊎_elim (λ below. below)
    (λ past. absurd (both_ways (test d) default (ap test (sym (get_or_past xs i d past)) ∙ passes)))
    (cases_lt i (length xs))

-- the place of the first buffer of a slab
pub place_of : (i w n : ℕ) → 0 < w → n ≡ w → (i * n / w ≡ i) × (i * n % w ≡ 0)
place_of i w n some e =
    rw e
    (subst (λ m. (m / w ≡ i) × (m % w ≡ 0)) (add-zero (i * w)) (div-mul-add i w 0 some, mod-mul-add i w 0 some))

pub first_of : (b w n : ℕ) → 0 < w → n ≡ w → b % w ≡ 0 → b / n * w ≡ b
first_of b w n some e none = rw e (omega (arith, none))

-- what is counted is there
pub any_counted : {X : Type 0} (p : X → Bool) (xs : List X) → nat_lt 0 (count_by p xs) ≡ list_any p xs
any_counted p [] = refl
any_counted p (x ∷ xs) =
    ap (nat_lt 0) (sum_by-cons (λ y. cond (p y) 1 0) x xs) ∙ by (p x) (count_by p xs) (list_any p xs) (any_counted p xs)
  where
    by : (b : Bool) (n : ℕ) (c : Bool) → nat_lt 0 n ≡ c → nat_lt 0 (cond b 1 0 + n) ≡ (b || c)
    by true n c e = lt-ltb 0 (1 + n) (omega arith)
    by false n c e = ap (nat_lt 0) (let z : 0 + n ≡ n = omega arith in z) ∙ e

pub some_of : (f : ℕ → ℕ) (o : Option ℕ) → is_some (option_map f o) ≡ true → (i : ℕ) × (o ≡ Some i)
some_of f None e = absurd (both_ways false refl e)
some_of f (Some i) e = (i, refl)

pub or_false : (b : Bool) → b ≡ (b || false)
or_false true = refl
or_false false = refl

-- a write that the test doesn't see
pub any-set_same : {X : Type 0} (p : X → Bool) (xs : List X) (i : ℕ) (y d : X) → p y ≡ p (get_or xs i d) → list_any p (set xs i y) ≡ list_any p xs
any-set_same p [] i y d same = refl
any-set_same p (x ∷ xs) zero y d same = ap (λ b. b || list_any p xs) same
any-set_same p (x ∷ xs) (suc i) y d same = ap (λ b. p x || b) (any-set_same p xs i y d same)

-- a write in place of what fails
pub any-set_more : {X : Type 0} (p : X → Bool) (xs : List X) (i : ℕ) (y d : X) → i < length xs → p (get_or xs i d) ≡ false →
    list_any p (set xs i y) ≡ (list_any p xs || p y)
any-set_more p [] i y d below e = absurd (omega arith)
any-set_more p (x ∷ xs) zero y d below e = by (p y) (p x) (list_any p xs) e
  where
    by : (a b c : Bool) → b ≡ false → (a || c) ≡ ((b || c) || a)
    by true true true e = refl
    by true true false e = refl
    by true false true e = refl
    by true false false e = refl
    by false true c e = absurd (both_ways true e refl)
    by false false true e = refl
    by false false false e = refl
any-set_more p (x ∷ xs) (suc i) y d below e =
    ap (λ b. p x || b) (any-set_more p xs i y d (omega arith) e) ∙ assoc (p x) (list_any p xs) (p y)
  where
    assoc : (a b c : Bool) → (a || (b || c)) ≡ ((a || b) || c)
    assoc true b c = refl
    assoc false b c = refl

-- the count after a write
pub count-set : {X : Type 0} (p : X → Bool) (xs : List X) (i : ℕ) (y d : X) → i < length xs →
    count_by p (set xs i y) + cond (p (get_or xs i d)) 1 0 ≡ count_by p xs + cond (p y) 1 0
count-set p xs i y d below = sum_by-set (λ x. cond (p x) 1 0) xs i y d below

-- two flags that are set
pub two_set : (flags : List Bool) (from to b : ℕ) → from < length flags → to < length flags →
    get_or (set (set flags from true) to true) b false ≡ (get_or flags b false || (from == b || to == b))
two_set flags from to b one other =
    ⊎_elim
    (λ same.
    ap (λ n. get_or (set (set flags from true) to true) n false) same
    ∙ (get_or-set_same (set flags from true) to true false (omega (arith, other, length-set flags from true))
    ∙ (sym (or_true (get_or flags b false) (from == b)) ∙ ap (λ t. get_or flags b false || (from == b || t)) (sym (eq-eqb to b (sym same))))))
    (λ apart.
    get_or-set_other (set flags from true) to b true false apart
    ∙ (⊎_elim
    (λ same.
    ap (λ n. get_or (set flags from true) n false) same
    ∙ (get_or-set_same flags from true false one
    ∙ (sym (true_or (get_or flags b false) (to == b)) ∙ ap (λ t. get_or flags b false || (t || to == b)) (sym (eq-eqb from b (sym same))))))
    (λ other_apart.
    get_or-set_other flags from b true false other_apart
    ∙ (or_false (get_or flags b false)
    ∙ ap₂ (λ (s t : Bool). get_or flags b false || (s || t)) (sym (ne_eqb from b (λ e. other_apart (sym e)))) (sym (ne_eqb to b (λ e. apart (sym e))))))
    (cases_eq b from)))
    (cases_eq b to)
  where
    or_true : (x y : Bool) → (x || (y || true)) ≡ true
    or_true true y = refl
    or_true false true = refl
    or_true false false = refl

    true_or : (x y : Bool) → (x || (true || y)) ≡ true
    true_or true y = refl
    true_or false y = refl

-- where one fails, not all are counted
pub count_less : {X : Type 0} (p : X → Bool) (xs : List X) (i : ℕ) (d : X) → i < length xs → p (get_or xs i d) ≡ false → count_by p xs < length xs
count_less p [] i d below e = absurd (omega arith)
count_less p (x ∷ xs) zero d below e =
    omega (arith, sum_by-cons (λ y. cond (p y) 1 0) x xs, ap {B = ℕ} (λ o. cond o 1 0) e, count_by-le-length p xs)
count_less p (x ∷ xs) (suc i) d below e =
    omega (arith, sum_by-cons (λ y. cond (p y) 1 0) x xs, one (p x), count_less p xs i d (omega arith) e)
  where
    one : (b : Bool) → cond b 1 0 ≤ 1
    one true = omega arith
    one false = omega arith

-- where each passes, all are counted
pub count_whole : {X : Type 0} (p : X → Bool) (xs : List X) (d : X) → ((i : ℕ) → i < length xs → p (get_or xs i d) ≡ true) → count_by p xs ≡ length xs
count_whole p [] d all = refl
count_whole p (x ∷ xs) d all =
    omega (
      arith,
      sum_by-cons (λ y. cond (p y) 1 0) x xs,
      ap {B = ℕ} (λ o. cond o 1 0) (all 0 (omega arith)),
      count_whole p xs d (λ i below. all (suc i) (omega arith)),
    )

-- where one is free, not all are out
pub free_below : (bs : List Bool) (k : ℕ) → k < length bs → get_or bs k false ≡ false → count_by (λ (o : Bool). o) bs < length bs
free_below bs k below e = count_less (λ (o : Bool). o) bs k false below e
