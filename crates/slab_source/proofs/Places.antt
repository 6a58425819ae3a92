-- The set of the places at which a list says true.
use Rattle.std.proofs.Common.{◌≡◌, ◌≢◌, ℕ, zero, suc, ◌+◌, ◌<◌, ◌≤◌, Bool, true, false, cond, ◌||◌, ◌&&◌, not, List, [], ◌∷◌, length, set, get_or, refl, sym, ap, ◌∙◌, subst, arith}
use Rattle.std.specs.Prelude.{nat_eq, nat_lt, replicate}
use Rattle.std.specs.List.{list_any}
use Rattle.std.specs.Ordering.{nat_cmp, eq_by_cmp}
use native.Mathlib.Decide.{dec_lt}
use Rattle.std.specs.Cmp.{nat_cmp_total, unsigned_tied}
use Rattle.std.specs.FinSet as fin
use Rattle.std.proofs.lemmas.Bool.Decides.{nat_tests}
use Rattle.slab_source.specs.Source.{numbers_from, places, bit_at, NoneBelow, count_of}

abbrev has : ℕ → List ℕ → Bool
has q ks = list_any (λ y. nat_eq y q) ks

numbers-below : (bits : List Bool) (k q : ℕ) → q < k → has q (numbers_from k bits) ≡ false
numbers-below [] k q h = refl
numbers-below (true ∷ bits) k q h = let rest = numbers-below bits (suc k) q (omega arith) in grind (arith, nat_tests)
numbers-below (false ∷ bits) k q h = numbers-below bits (suc k) q (omega arith)

numbers-at : (bits : List Bool) (k q : ℕ) → has (k + q) (numbers_from k bits) ≡ bit_at bits q
numbers-at [] k q = refl
numbers-at (true ∷ bits) k zero = grind (arith, nat_tests)
numbers-at (true ∷ bits) k (suc q) = let rest = numbers-at bits (suc k) q in let n : suc k + q ≡ k + suc q = omega arith in grind (arith, nat_tests)
numbers-at (false ∷ bits) k zero = numbers-below bits (suc k) (k + 0) (omega arith)
numbers-at (false ∷ bits) k (suc q) = let n : suc k + q ≡ k + suc q = omega arith in subst (λ m. has m (numbers_from (suc k) bits) ≡ bit_at bits q) n (numbers-at bits (suc k) q)

pub contains-places : (bits : List Bool) (q : ℕ) → fin.contains (places bits) q ≡ bit_at bits q
contains-places bits q = fin.contains-from_list_nat (numbers_from 0 bits) q ∙ subst (λ m. has m (numbers_from 0 bits) ≡ bit_at bits q) (let e : 0 + q ≡ q = omega arith in e) (numbers-at bits 0 q)

pub bit_at-set : (bits : List Bool) (n q : ℕ) (v : Bool) → n < length bits → bit_at (set bits n v) q ≡ cond (nat_eq q n) v (bit_at bits q)
bit_at-set [] n q v h = absurd (omega arith)
bit_at-set (b ∷ bits) zero zero v h = grind (arith, nat_tests)
bit_at-set (b ∷ bits) zero (suc q) v h = grind (arith, nat_tests)
bit_at-set (b ∷ bits) (suc n) zero v h = grind (arith, nat_tests)
bit_at-set (b ∷ bits) (suc n) (suc q) v h = let rest = bit_at-set bits n q v (omega arith) in grind (arith, nat_tests)

pub bit_at-past : (bits : List Bool) (q : ℕ) → length bits ≤ q → bit_at bits q ≡ false
bit_at-past [] q h = refl
bit_at-past (b ∷ bits) zero h = absurd (omega arith)
bit_at-past (b ∷ bits) (suc q) h = bit_at-past bits q (omega arith)

same_number : (q n : ℕ) → eq_by_cmp nat_cmp q n ≡ nat_eq q n
same_number q n = unsigned_tied q n

cond-remove : (t b : Bool) → cond t false b ≡ (not t && b)
cond-remove true b = refl
cond-remove false b = refl

cond-insert : (t b : Bool) → cond t true b ≡ (t || b)
cond-insert true b = refl
cond-insert false b = refl

pub places-take : (bits : List Bool) (n : ℕ) → n < length bits → places (set bits n false) ≡ fin.remove (places bits) n
places-take bits n h = fin.same_set nat_cmp_total fin.nat_cmp-IsAntisymmetric _ _ (λ q.
    contains-places (set bits n false) q ∙ bit_at-set bits n q false h ∙ cond-remove (nat_eq q n) (bit_at bits q)
    ∙ sym (fin.contains-remove nat_cmp_total (places bits) n q ∙ (λ i. not (same_number q n i) && contains-places bits q i)))

pub places-give : (bits : List Bool) (n : ℕ) → n < length bits → places (set bits n true) ≡ fin.insert (places bits) n
places-give bits n h = fin.same_set nat_cmp_total fin.nat_cmp-IsAntisymmetric _ _ (λ q.
    contains-places (set bits n true) q ∙ bit_at-set bits n q true h ∙ cond-insert (nat_eq q n) (bit_at bits q)
    ∙ sym (fin.contains-insert nat_cmp_total (places bits) n q ∙ (λ i. same_number q n i || contains-places bits q i)))

no_bit : (bits : List Bool) → NoneBelow bits (length bits) → (q : ℕ) → Dec (q < length bits) → bit_at bits q ≡ false
no_bit bits none q (yes h) = none q h
no_bit bits none q (no h) = bit_at-past bits q (omega arith)

pub places-none : (bits : List Bool) → NoneBelow bits (length bits) → places bits ≡ fin.empty
places-none bits none = fin.same_set nat_cmp_total fin.nat_cmp-IsAntisymmetric _ _ (λ q.
    contains-places bits q ∙ no_bit bits none q (dec_lt q (length bits)) ∙ sym (fin.contains-empty nat_cmp q))

len-numbers : (bits : List Bool) (k : ℕ) → fin.len (fin.from_list {R = nat_cmp} (numbers_from k bits)) ≡ count_of bits
len-numbers [] k = fin.len-empty nat_cmp
len-numbers (true ∷ bits) k =
    let rest = fin.from_list {R = nat_cmp} (numbers_from (suc k) bits) in
    let new : fin.contains rest k ≡ false = fin.contains-from_list_nat (numbers_from (suc k) bits) k ∙ numbers-below bits (suc k) k (omega arith) in
    fin.len-insert nat_cmp_total rest k ∙ ap (λ b. cond b (fin.len rest) (fin.len rest + 1)) new ∙ omega (arith, len-numbers bits (suc k))
len-numbers (false ∷ bits) k = len-numbers bits (suc k)

pub len-places : (bits : List Bool) → fin.len (places bits) ≡ count_of bits
len-places bits = len-numbers bits 0

pub count_of-take : (bits : List Bool) (n : ℕ) → bit_at bits n ≡ true → count_of (set bits n false) + 1 ≡ count_of bits
count_of-take [] n e = absurd (cc)
count_of-take (true ∷ bits) zero e = omega arith
count_of-take (false ∷ bits) zero e = absurd (cc)
count_of-take (true ∷ bits) (suc n) e = omega (arith, count_of-take bits n e)
count_of-take (false ∷ bits) (suc n) e = count_of-take bits n e

pub count_of-give : (bits : List Bool) (n : ℕ) → n < length bits → bit_at bits n ≡ false → count_of (set bits n true) ≡ count_of bits + 1
count_of-give [] n h e = absurd (omega arith)
count_of-give (true ∷ bits) zero h e = absurd (cc)
count_of-give (false ∷ bits) zero h e = omega arith
count_of-give (true ∷ bits) (suc n) h e = omega (arith, count_of-give bits n (omega arith) e)
count_of-give (false ∷ bits) (suc n) h e = count_of-give bits n (omega arith) e

pub count_of-le : (bits : List Bool) → count_of bits ≤ length bits
count_of-le [] = omega arith
count_of-le (true ∷ bits) = omega (arith, count_of-le bits)
count_of-le (false ∷ bits) = omega (arith, count_of-le bits)

pub count_of-replicate : (n : ℕ) → count_of (replicate n true) ≡ n
count_of-replicate zero = refl
count_of-replicate (suc n) = ap suc (count_of-replicate n)

pub bit_at-replicate : (n q : ℕ) → bit_at (replicate n true) q ≡ nat_lt q n
bit_at-replicate zero q = grind (arith, nat_tests)
bit_at-replicate (suc n) zero = grind (arith, nat_tests)
bit_at-replicate (suc n) (suc q) = let rest = bit_at-replicate n q in grind (arith, nat_tests)

-- the places below both the old bound and the one that was given back
pub none-give : (bits : List Bool) (first n below : ℕ) → n < length bits → NoneBelow bits first → below ≤ first → below ≤ n → NoneBelow (set bits n true) below
none-give bits first n below h none le here k lt =
    let other : k ≢ n = omega arith in
    bit_at-set bits n k true h ∙ ap (λ b. cond b true (bit_at bits k)) (let e : nat_eq k n ≡ false = grind (arith, nat_tests) in e) ∙ none k (omega arith)

pub none-take : (bits : List Bool) (n : ℕ) → n < length bits → NoneBelow bits n → NoneBelow (set bits n false) (n + 1)
none-take bits n h none k lt = bit_at-set bits n k false h ∙ kept (nat_eq k n) refl
  where
    kept : (b : Bool) → nat_eq k n ≡ b → cond b false (bit_at bits k) ≡ false
    kept true e = refl
    kept false e = none k (let apart : k ≢ n = grind (arith, nat_tests) in omega arith)

pub bit_at-get : (bits : List Bool) (q : ℕ) → bit_at bits q ≡ get_or bits q false
bit_at-get [] q = refl
bit_at-get (b ∷ bits) zero = refl
bit_at-get (b ∷ bits) (suc q) = bit_at-get bits q
