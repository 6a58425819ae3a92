-- The order of partial slabs.
use Rattle.std.proofs.Common.{◌≡◌, ◌≢◌, ℕ, Bool, true, false, ◌&&◌, ◌||◌, List, nat_lt, ◌==◌, if◌then◌else◌, refl, sym, arith}
use Rattle.std.proofs.lemmas.Bool.Decides.{nat_tests}
use Rattle.kmem_model.specs.CacheState.{SlabState, slab_at, used}
use Rattle.kmem_model.specs.CacheOrder.{comes_before, is_marked, IsOrder}

-- marks first, then the greater use, then the lesser number
abbrev ranks : Bool → ℕ → ℕ → Bool → ℕ → ℕ → Bool
ranks a m i b n j =
    if a then (if b then (nat_lt n m || (m == n && nat_lt i j)) else true)
    else (if b then false else (nat_lt n m || (m == n && nat_lt i j)))

one_way : (a b : Bool) (m n i j : ℕ) → ranks a m i b n j ≡ true → ranks b n j a m i ≡ false
one_way true true m n i j h = grind (arith, nat_tests)
one_way true false m n i j h = refl
one_way false true m n i j h = absurd (cc)
one_way false false m n i j h = grind (arith, nat_tests)

total : (a b : Bool) (m n i j : ℕ) → i ≢ j → ranks a m i b n j ≡ false → ranks b n j a m i ≡ true
total true true m n i j other h = grind (arith, nat_tests)
total true false m n i j other h = absurd (cc)
total false true m n i j other h = refl
total false false m n i j other h = grind (arith, nat_tests)

transitive : (a b c : Bool) (l m n i j k : ℕ) → ranks a l i b m j ≡ true → ranks b m j c n k ≡ true → ranks a l i c n k ≡ true
transitive true true true l m n i j k h g = grind (arith, nat_tests)
transitive true true false l m n i j k h g = refl
transitive true false true l m n i j k h g = absurd (cc)
transitive true false false l m n i j k h g = refl
transitive false true c l m n i j k h g = absurd (cc)
transitive false false true l m n i j k h g = absurd (cc)
transitive false false false l m n i j k h g = grind (arith, nat_tests)

pub comes_before-order : (slabs : List SlabState) → IsOrder (comes_before slabs)
comes_before-order slabs =
    record {
      one_way = λ i j h.
          one_way (is_marked (slab_at slabs i)) (is_marked (slab_at slabs j)) (used (slab_at slabs i)) (used (slab_at slabs j)) i j h;
      total = λ i j other h.
          total (is_marked (slab_at slabs i)) (is_marked (slab_at slabs j)) (used (slab_at slabs i)) (used (slab_at slabs j)) i j other h;
      transitive = λ i j k h g.
          transitive (is_marked (slab_at slabs i)) (is_marked (slab_at slabs j)) (is_marked (slab_at slabs k)) (used (slab_at slabs i))
          (used (slab_at slabs j)) (used (slab_at slabs k)) i j k h g;
    }

-- an order read backwards is one
pub reversed-order : (before : ℕ → ℕ → Bool) → IsOrder before → IsOrder (λ i j. before j i)
reversed-order before order =
    record {
      one_way = λ i j h. order.one_way j i h;
      total = λ i j other h. order.total j i (λ same. other (sym same)) h;
      transitive = λ i j k h g. order.transitive k j i g h;
    }
