-- Whether every partial slab after the first has a mark, by the last partial slab alone.
use Rattle.std.proofs.Common.{◌≡◌, ℕ, ◌+◌, ◌*◌, ◌/◌, ◌%◌, ◌<◌, ◌≤◌, Bool, true, false, ◌&&◌, not, length, Option, Some, None, ⊎_elim, sym, ◌∙◌, ap, arith, refl}
use Rattle.std.specs.Prelude.{◌↔◌, is_none}
use Rattle.std.proofs.lemmas.Bool.{cases_Bool, cases_lt, both_ways, and_parts, and_cases, not-true, not-false, eqb-true, lt-ltb, false_from_ne_true}
use Rattle.std.proofs.lemmas.Nat.{mod-mul-add}
use Rattle.number_set.specs.Places.{IsLastBelow}
use Rattle.kmem_model.specs.CacheState.{slab_at, used}
use Rattle.kmem_model.specs.CacheOrder.{least_below, is_the, is_partial, is_marked, comes_before, first_partial, IsForemost}
use Rattle.kmem_model.specs.Settle.{is_open_slab, is_rest_marked}
use Rattle.slab_list.specs.Slabs.{ListState}
use Rattle.slab_list.specs.Bins.{stands_at}
use Rattle.slab_list.proofs.Orders.{place_of, partial_bin, Left, left_next, low_use, place_low, place_within, place_partial, place_own, before_places}

is_the_some : (o : Option ℕ) (n : ℕ) → is_the o n ≡ true → o ≡ Some n
is_the_some None n e = absurd (both_ways false refl e)
is_the_some (Some m) n e = ap Some (eqb-true m n e)

some_there : (o : Option ℕ) → (o ≡ None → ⊥) → is_none o ≡ false
some_there None h = absurd (h refl)
some_there (Some n) h = refl

-- a place in the bins of marked slabs comes before each in those of slabs without a mark
marks_first : (u v i j : ℕ) (ma mb : Bool) → i < 4096 → ma ≡ true → mb ≡ false → u < 64 → v < 64 →
    partial_bin u ma * 4096 + i < partial_bin v mb * 4096 + j
marks_first u v i j true false low a b less most = omega arith
marks_first u v i j true true low a b less most = absurd (both_ways true b refl)
marks_first u v i j false mb low a b less most = absurd (both_ways false refl a)

module _ (s : ListState) (narrow : s.chunks ≤ 64) (few : length s.slabs ≤ 4096) (size : (j : ℕ) → j < length s.slabs → length (slab_at s.slabs j).out ≡ s.chunks)
    (none_is : (n : ℕ) (t : ℕ → Bool) → (least_below n t ≡ None) ↔ ((k : ℕ) → k < n → t k ≡ false))
    (first_is : (i : ℕ) → (first_partial s.slabs ≡ Some i) ↔ IsForemost (length s.slabs) (λ j. is_partial (slab_at s.slabs j)) (comes_before s.slabs) i) where
  abbrev partial : ℕ → Bool
  partial j = is_partial (slab_at s.slabs j)

  left : (o : Option ℕ) → IsLastBelow (stands_at s) 524288 o → Left s partial o
  left o found = left_next s narrow few size partial (λ j below given. given) 524288 o (omega arith) (λ j below given. place_low s narrow few size j below given) found

  open_parts : (j : ℕ) → is_open_slab s.slabs j ≡ true →
      (partial j ≡ true) × (is_marked (slab_at s.slabs j) ≡ false) × (is_the (first_partial s.slabs) j ≡ false)
  open_parts j given =
      let a = and_parts (partial j && not (is_marked (slab_at s.slabs j))) (not (is_the (first_partial s.slabs) j)) given in
      let b = and_parts (partial j) (not (is_marked (slab_at s.slabs j))) a.0 in
      (b.0, not-true (is_marked (slab_at s.slabs j)) b.1, not-true (is_the (first_partial s.slabs) j) a.1)

  pub rest_none : IsLastBelow (stands_at s) 524288 None → is_rest_marked s.slabs ≡ true
  rest_none none =
      let all : Left s partial None = left None none in
      ap is_none ((none_is (length s.slabs) (is_open_slab s.slabs)).1
      (λ j below. false_from_ne_true (is_open_slab s.slabs j) (λ given. both_ways (partial j) (all j below) (open_parts j given).0)))

  module _ (p : ℕ) (found : IsLastBelow (stands_at s) 524288 (Some p)) where
    abbrev i : ℕ
    i = p % 4096

    low : p / 4096 < 128
    low = omega (arith, found.0)

    below : i < length s.slabs
    below = place_within s narrow few size p found.1 low

    its : partial i ≡ true
    its = place_partial s narrow few size p found.1 low

    own : place_of s.slabs i ≡ p
    own = place_own s narrow few size p found.1 low

    others : (j : ℕ) → j < length s.slabs → partial j ≡ true → place_of s.slabs j ≤ p
    others = let l : Left s partial (Some p) = left (Some p) found in l.2

    -- where the last one is open, one is
    open_one : is_open_slab s.slabs i ≡ true → is_rest_marked s.slabs ≡ false
    open_one given =
        some_there (least_below (length s.slabs) (is_open_slab s.slabs))
        (λ none. both_ways (is_open_slab s.slabs i) ((none_is (length s.slabs) (is_open_slab s.slabs)).0 none i below) given)

    not_open : is_open_slab s.slabs i ≡ false → (j : ℕ) → j < length s.slabs → is_open_slab s.slabs j ≡ true → ⊥
    not_open closed j inside given =
        let o = open_parts j given in
        let at_most : place_of s.slabs j ≤ p = others j inside o.0 in
        ⊎_elim
        (λ (plain : (partial i && not (is_marked (slab_at s.slabs i))) ≡ false).
        ⊎_elim
        (λ no_partial. both_ways (partial i) no_partial its)
        (λ (marked : not (is_marked (slab_at s.slabs i)) ≡ false).
        omega (
          arith,
          marks_first (used (slab_at s.slabs i)) (used (slab_at s.slabs j)) i j (is_marked (slab_at s.slabs i)) (is_marked (slab_at s.slabs j))
              (omega arith) (not-false (is_marked (slab_at s.slabs i)) marked) o.1
              (low_use s narrow few size i below its) (low_use s narrow few size j inside o.0),
          own,
          at_most,
        ))
        (and_cases (partial i) (not (is_marked (slab_at s.slabs i))) plain))
        (λ (is_first : not (is_the (first_partial s.slabs) i) ≡ false).
        let first : first_partial s.slabs ≡ Some i = is_the_some (first_partial s.slabs) i (not-false (is_the (first_partial s.slabs) i) is_first) in
        let f : IsForemost (length s.slabs) (λ k. is_partial (slab_at s.slabs k)) (comes_before s.slabs) i = (first_is i).0 first in
        ⊎_elim
        (λ (less : place_of s.slabs j < place_of s.slabs i).
        both_ways (comes_before s.slabs j i) (f.first j inside o.0)
        (before_places s narrow few size j i inside below o.0 its ∙ lt-ltb (place_of s.slabs j) (place_of s.slabs i) less))
        (λ (over : place_of s.slabs i ≤ place_of s.slabs j).
        let same : j ≡ i = sym (mod-mul-add (partial_bin (used (slab_at s.slabs j)) (is_marked (slab_at s.slabs j))) 4096 j (omega (arith, inside, few)))
        ∙ ap (λ q. q % 4096) (omega (arith, over, own, at_most)) in
        both_ways (is_the (first_partial s.slabs) j) o.2 (ap (is_the (first_partial s.slabs)) same ∙ not-false (is_the (first_partial s.slabs) i) is_first))
        (cases_lt (place_of s.slabs j) (place_of s.slabs i)))
        (and_cases (partial i && not (is_marked (slab_at s.slabs i))) (not (is_the (first_partial s.slabs) i)) closed)

    pub rest_by_last : is_rest_marked s.slabs ≡ not (is_open_slab s.slabs i)
    rest_by_last =
        ⊎_elim
        (λ (given : is_open_slab s.slabs i ≡ true). open_one given ∙ sym (ap not given))
        (λ closed.
        ap is_none ((none_is (length s.slabs) (is_open_slab s.slabs)).1
        (λ j inside. false_from_ne_true (is_open_slab s.slabs j) (not_open closed j inside)))
        ∙ sym (ap not closed))
        (cases_Bool (is_open_slab s.slabs i))
