-- Every partial slab after the first has a mark exactly where at most one has none and is then the only one.
use Rattle.std.proofs.Common.{◌≡◌, ◌≢◌, ℕ, zero, suc, ◌+◌, ◌<◌, ◌≤◌, ◌==◌, ◌&&◌, ◌||◌, not, Bool, true, false, cond, List, [], ◌∷◌, length, get_or, set, count_by, Option, Some, None, is_none, ◌⊎◌, inl, inr, ⊎_elim, sym, ◌∙◌, ap, ap₂, refl, arith}
use Rattle.std.proofs.lemmas.Bool.{cases_Bool, both_ways, and_from, and_parts, eq-eqb, ne_eqb, not_from_false, not-true, cond-true, cond-false}
use Rattle.std.proofs.lemmas.List.{get_or-set_same, get_or-set_other, length-set}
use Rattle.std.proofs.lemmas.List.Sums.{get_or-le-sum_by}
use Rattle.kmem_model.proofs.CacheLists.{count-cons, count-set, reads_within}
use Rattle.kmem_model.proofs.CacheSearch.{fails_from_none, none_from_fails, foremost_from_some, none_passes_from_none}
use Rattle.kmem_model.proofs.CacheRanks.{comes_before-order}
use Rattle.kmem_model.specs.CacheState.{SlabState, no_slab, slab_at}
use Rattle.kmem_model.specs.CacheOrder.{least_below, foremost, is_the, is_partial, is_marked, comes_before, first_partial, IsForemost}
use Rattle.kmem_model.specs.Settle.{is_open_slab, is_rest_marked}
use Rattle.kmem_model.specs.SettleMarks.{is_plain_partial, is_marked_partial, is_at_most_one_plain}

-- Counts

-- what passes counts
counts_one : {X : Type 0} (p : X → Bool) (xs : List X) (i : ℕ) (d : X) → i < length xs → p (get_or xs i d) ≡ true → 0 < count_by p xs
counts_one p xs i d below passes =
    let one : ◌≡◌ {A = ℕ} (cond (p (get_or xs i d)) 1 0) 1 = ap {B = ℕ} (λ b. cond b 1 0) passes in
    omega (arith, one, get_or-le-sum_by (λ x. cond (p x) 1 0) xs i d below)

-- where the count isn't 0, one passes
pub passes_somewhere : {X : Type 0} (p : X → Bool) (xs : List X) (d : X) → 0 < count_by p xs → (i : ℕ) × (i < length xs) × (p (get_or xs i d) ≡ true)
passes_somewhere p [] d some = absurd (omega arith)
passes_somewhere p (x ∷ xs) d some =
    ⊎_elim
    (λ yes. (0, omega arith, yes))
    (λ fails.
    let rest = passes_somewhere p xs d (omega (arith, ap {B = ℕ} (λ b. cond b 1 0) fails, count-cons p x xs, some)) in
    (suc rest.0, omega (arith, rest.1), rest.2))
    (cases_Bool (p x))

-- two that pass count two
counts_two : {X : Type 0} (p : X → Bool) (xs : List X) (i j : ℕ) (d : X) → p d ≡ false → i < length xs → j < length xs → i ≢ j → p (get_or xs i d) ≡ true → p (get_or xs j d) ≡ true → 2 ≤ count_by p xs
counts_two p xs i j d default below_i below_j apart at_i at_j =
    let cleared : count_by p (set xs i d) + cond (p (get_or xs i d)) 1 0 ≡ count_by p xs + cond (p d) 1 0 = count-set p xs i d d below_i in
    let was : ◌≡◌ {A = ℕ} (cond (p (get_or xs i d)) 1 0) 1 = ap {B = ℕ} (λ b. cond b 1 0) at_i in
    let now : ◌≡◌ {A = ℕ} (cond (p d) 1 0) 0 = ap {B = ℕ} (λ b. cond b 1 0) default in
    let other : 0 < count_by p (set xs i d) = counts_one p (set xs i d) j d (omega (arith, below_j, length-set xs i d)) (ap p (get_or-set_other xs i j d d (λ same. apart (sym same))) ∙ at_j) in
    omega (arith, cleared, was, now, other)

-- where two count, another one than this passes
passes_elsewhere : {X : Type 0} (p : X → Bool) (xs : List X) (i : ℕ) (d : X) → p d ≡ false → i < length xs → 2 ≤ count_by p xs → (j : ℕ) × (j < length xs) × (p (get_or xs j d) ≡ true) × (j ≢ i)
passes_elsewhere p xs i d default below two =
    let cleared : count_by p (set xs i d) + cond (p (get_or xs i d)) 1 0 ≡ count_by p xs + cond (p d) 1 0 = count-set p xs i d d below in
    let now : ◌≡◌ {A = ℕ} (cond (p d) 1 0) 0 = ap {B = ℕ} (λ b. cond b 1 0) default in
    let at = passes_somewhere p (set xs i d) d (omega (arith, cleared, now, two, at_most (p (get_or xs i d)))) in
    let apart : at.0 ≢ i = λ same. absurd (both_ways (p d) default (sym (ap p (get_or-set_same xs i d d below)) ∙ (ap (λ k. p (get_or (set xs i d) k d)) (sym same) ∙ at.2))) in
    (at.0, omega (arith, at.1, length-set xs i d), sym (ap p (get_or-set_other xs i at.0 d d apart)) ∙ at.2, apart)
  where
    at_most : (b : Bool) → cond b 1 0 ≤ 1
    at_most true = omega arith
    at_most false = omega arith

-- The first partial slab

-- what is_open_slab says of slab i, by its parts
plain_at : (slabs : List SlabState) (i : ℕ) → is_open_slab slabs i ≡ true → (is_plain_partial (slab_at slabs i) ≡ true) × (is_the (first_partial slabs) i ≡ false)
plain_at slabs i e =
    let parts = and_parts (is_partial (slab_at slabs i) && not (is_marked (slab_at slabs i))) (not (is_the (first_partial slabs) i)) e in
    (parts.0, not-true (is_the (first_partial slabs) i) parts.1)

open_at : (slabs : List SlabState) (i : ℕ) → is_plain_partial (slab_at slabs i) ≡ true → is_the (first_partial slabs) i ≡ false → is_open_slab slabs i ≡ true
open_at slabs i plain apart = and_from (is_plain_partial (slab_at slabs i)) (not (is_the (first_partial slabs) i)) plain (not_from_false (is_the (first_partial slabs) i) apart)

-- one is open, so the rest isn't all marked
not_rest : (slabs : List SlabState) (i : ℕ) → i < length slabs → is_open_slab slabs i ≡ true → is_rest_marked slabs ≡ false
not_rest slabs i below is = by_found (least_below (length slabs) (is_open_slab slabs)) refl
  where
    by_found : (x : Option ℕ) → least_below (length slabs) (is_open_slab slabs) ≡ x → is_none x ≡ false
    by_found (Some k) e = refl
    by_found None e = absurd (both_ways (is_open_slab slabs i) (fails_from_none (length slabs) (is_open_slab slabs) e i below) is)

-- none is open
rest : (slabs : List SlabState) → ((i : ℕ) → i < length slabs → is_open_slab slabs i ≡ true → ⊥) → is_rest_marked slabs ≡ true
rest slabs none = ap is_none (none_from_fails (length slabs) (is_open_slab slabs) (λ i below. by_open i below (cases_Bool (is_open_slab slabs i))))
  where
    by_open : (i : ℕ) → i < length slabs → (is_open_slab slabs i ≡ true) ⊎ (is_open_slab slabs i ≡ false) → is_open_slab slabs i ≡ false
    by_open i below (inl is) = absurd (none i below is)
    by_open i below (inr fails) = fails

plain_within : (slabs : List SlabState) (i : ℕ) → is_plain_partial (slab_at slabs i) ≡ true → i < length slabs
plain_within slabs i plain = reads_within slabs i no_slab is_plain_partial refl plain

-- a slab that is partial has a first one beside it
first_is : (slabs : List SlabState) (i : ℕ) → i < length slabs → is_partial (slab_at slabs i) ≡ true → (f : ℕ) × (first_partial slabs ≡ Some f)
first_is slabs i below partial = by_found (first_partial slabs) refl
  where
    by_found : (x : Option ℕ) → first_partial slabs ≡ x → (f : ℕ) × (x ≡ Some f)
    by_found (Some f) e = (f, refl)
    by_found None e = absurd (both_ways (is_partial (slab_at slabs i)) (none_passes_from_none (length slabs) (λ i. is_partial (slab_at slabs i)) (comes_before slabs) (comes_before-order slabs) e i below) partial)

foremost_is : (slabs : List SlabState) (f : ℕ) → first_partial slabs ≡ Some f → IsForemost (length slabs) (λ i. is_partial (slab_at slabs i)) (comes_before slabs) f
foremost_is slabs f e = foremost_from_some (length slabs) (λ i. is_partial (slab_at slabs i)) (comes_before slabs) f e

-- a marked partial slab comes before a plain one
marked_before : (slabs : List SlabState) (i j : ℕ) → is_marked (slab_at slabs i) ≡ true → is_marked (slab_at slabs j) ≡ false → comes_before slabs i j ≡ true
marked_before slabs i j marked plain =
    cond-true (is_marked (slab_at slabs i)) _ _ marked ∙ cond-false (is_marked (slab_at slabs j)) _ true plain

-- which number is the first
the_first : (slabs : List SlabState) (f : ℕ) → first_partial slabs ≡ Some f → (i : ℕ) → is_the (first_partial slabs) i ≡ (f == i)
the_first slabs f e i = ap (λ x. is_the x i) e

-- by how many are plain, and how many marked
pub rest_by_counts : (slabs : List SlabState) → is_rest_marked slabs ≡ is_at_most_one_plain slabs
rest_by_counts slabs = by_plain (count_by is_plain_partial slabs) refl (count_by is_marked_partial slabs) refl
  where
    -- one plain slab beside the first
    beside : (f i : ℕ) → first_partial slabs ≡ Some f → is_plain_partial (slab_at slabs i) ≡ true → i ≢ f → is_rest_marked slabs ≡ false
    beside f i e plain apart = not_rest slabs i (plain_within slabs i plain) (open_at slabs i plain (the_first slabs f e i ∙ ne_eqb f i (λ same. apart (sym same))))

    none : count_by is_plain_partial slabs ≡ 0 → is_rest_marked slabs ≡ true
    none zero_plain = rest slabs (λ i below is. omega (arith, zero_plain, counts_one is_plain_partial slabs i no_slab below (plain_at slabs i is).0))

    only : count_by is_plain_partial slabs ≡ 1 → count_by is_marked_partial slabs ≡ 0 → is_rest_marked slabs ≡ true
    only one zero_marked = rest slabs (λ i below is. alone i below is (first_is slabs i below (and_parts _ _ (plain_at slabs i is).0).0))
      where
        first_plain : (f : ℕ) → IsForemost (length slabs) (λ i. is_partial (slab_at slabs i)) (comes_before slabs) f → is_plain_partial (slab_at slabs f) ≡ true
        first_plain f foremost = by_mark (is_marked (slab_at slabs f)) refl
          where
            by_mark : (b : Bool) → is_marked (slab_at slabs f) ≡ b → is_plain_partial (slab_at slabs f) ≡ true
            by_mark true marked = absurd (omega (arith, zero_marked, counts_one is_marked_partial slabs f no_slab foremost.below (and_from (is_partial (slab_at slabs f)) (is_marked (slab_at slabs f)) foremost.passes marked)))
            by_mark false plain = and_from (is_partial (slab_at slabs f)) (not (is_marked (slab_at slabs f))) foremost.passes (not_from_false (is_marked (slab_at slabs f)) plain)

        alone : (i : ℕ) → i < length slabs → is_open_slab slabs i ≡ true → (f : ℕ) × (first_partial slabs ≡ Some f) → ⊥
        alone i below is first =
            let foremost = foremost_is slabs first.0 first.1 in
            let plain = plain_at slabs i is in
            let apart : i ≢ first.0 = λ same. both_ways (is_the (first_partial slabs) i) plain.1 (the_first slabs first.0 first.1 i ∙ eq-eqb first.0 i (sym same)) in
            omega (arith, one, counts_two is_plain_partial slabs i first.0 no_slab refl below foremost.below apart plain.0 (first_plain first.0 foremost))

    two : 2 ≤ count_by is_plain_partial slabs → is_rest_marked slabs ≡ false
    two more =
        let at = passes_somewhere is_plain_partial slabs no_slab (omega (arith, more)) in
        let first = first_is slabs at.0 at.1 (and_parts _ _ at.2).0 in
        let foremost = foremost_is slabs first.0 first.1 in
        let other = passes_elsewhere is_plain_partial slabs first.0 no_slab refl foremost.below more in
        beside first.0 other.0 first.1 other.2 other.3

    both : 0 < count_by is_plain_partial slabs → 0 < count_by is_marked_partial slabs → is_rest_marked slabs ≡ false
    both some_plain some_marked =
        let plain = passes_somewhere is_plain_partial slabs no_slab some_plain in
        let marked = passes_somewhere is_marked_partial slabs no_slab some_marked in
        let first = first_is slabs plain.0 plain.1 (and_parts _ _ plain.2).0 in
        let foremost = foremost_is slabs first.0 first.1 in
        let parts = and_parts (is_partial (slab_at slabs marked.0)) (is_marked (slab_at slabs marked.0)) marked.2 in
        beside first.0 plain.0 first.1 plain.2
        (λ same. both_ways (comes_before slabs marked.0 first.0) (foremost.first marked.0 marked.1 parts.0)
        (marked_before slabs marked.0 first.0 parts.1 (ap (λ i. is_marked (slab_at slabs i)) (sym same) ∙ not-true (is_marked (slab_at slabs plain.0)) (and_parts (is_partial (slab_at slabs plain.0)) (not (is_marked (slab_at slabs plain.0))) plain.2).1)))

    by_plain : (n : ℕ) → count_by is_plain_partial slabs ≡ n → (k : ℕ) → count_by is_marked_partial slabs ≡ k → is_rest_marked slabs ≡ (n == 0 || (n == 1 && k == 0))
    by_plain zero e k f = none e
    by_plain (suc zero) e zero f = only e f
    by_plain (suc zero) e (suc k) f = both (omega (arith, e)) (omega (arith, f)) ∙ sym (ap (λ b. 1 == 0 || (1 == 1 && b)) (ne_eqb (suc k) 0 (λ same. omega (arith, same))))
    by_plain (suc (suc n)) e k f = two (omega (arith, e)) ∙ sym (ap₂ (λ a b. a || (b && k == 0)) (ne_eqb (suc (suc n)) 0 (λ same. omega (arith, same))) (ne_eqb (suc (suc n)) 1 (λ same. omega (arith, same))))
