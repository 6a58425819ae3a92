-- The least name that is present from one on, and the least leftover, by what a search in a set finds.
use Rattle.std.proofs.Common.{◌≡◌, ℕ, ◌<◌, ◌≤◌, ◌&&◌, nat_le, Bool, true, false, List, length, get_or, Option, Some, None, is_some, IfSome, ⊎_elim, sym, ◌∙◌, ap, ap₂, arith}
use Rattle.std.specs.Prelude.{◌↔◌}
use Rattle.std.proofs.lemmas.Bool.{cases_lt, both_ways, le-leb, lt-leb, and_from}
use Rattle.std.proofs.lemmas.List.{get_or_past}
use Rattle.number_set.specs.Places.{IsLeastFrom}
use Rattle.number_set.specs.Sets.{SetState, has}
use Rattle.kmem_model.specs.CacheOrder.{least_below, IsLeastBelow}
use Rattle.kmem_model.specs.Heap.{Object, is_leftover}
use Rattle.record_heap.specs.Shelves.{AreLeftovers}

abbrev pub there : List (Option ℕ) → ℕ → Bool
there names name = is_some (get_or names name None)

present_within : (names : List (Option ℕ)) (name : ℕ) → there names name ≡ true → name < length names
present_within names name given =
    ⊎_elim (λ low. low) (λ past. absurd (both_ways (there names name) (ap is_some (get_or_past names name None past)) given)) (cases_lt name (length names))

-- one that isn't from `from` on, or isn't present, isn't found
passed_by : (names : List (Option ℕ)) (from k : ℕ) → (from ≤ k → there names k ≡ false) → (nat_le from k && there names k) ≡ false
passed_by names from k fails =
    ⊎_elim
    (λ (low : k < from). ap (λ b. b && there names k) (lt-leb from k low))
    (λ high. ap₂ (λ a b. a && b) (le-leb from k high) (fails high))
    (cases_lt k from)

module _ (least_is : (n k : ℕ) (t : ℕ → Bool) → (least_below n t ≡ Some k) ↔ IsLeastBelow n t k)
    (none_is : (n : ℕ) (t : ℕ → Bool) → (least_below n t ≡ None) ↔ ((k : ℕ) → k < n → t k ≡ false))
    (names : List (Option ℕ)) (from : ℕ) where
  pub found_from : (o : Option ℕ) → IsLeastFrom (there names) from o → o ≡ least_below (length names) (λ name. nat_le from name && there names name)
  found_from None none =
      sym ((none_is (length names) (λ name. nat_le from name && there names name)).1 (λ k below. passed_by names from k (none k)))
  found_from (Some n) found =
      sym ((least_is (length names) n (λ name. nat_le from name && there names name)).1 (record {
        below = present_within names n found.1;
        passes = and_from (nat_le from n) (there names n) (le-leb from n found.0) found.1;
        least = λ j less. passed_by names from j (λ high. found.2 j high less);
      }))

pub found_there : (names : List (Option ℕ)) (from : ℕ) (o : Option ℕ) → IsLeastFrom (there names) from o →
    IfSome o (λ name. (name < length names) × (there names name ≡ true))
found_there names from None none = tt
found_there names from (Some n) found = (present_within names n found.1, found.1)

-- the least leftover
left_within : (objects : List (Option Object)) (b : ℕ) → is_leftover (get_or objects b None) ≡ true → b < length objects
left_within objects b given =
    ⊎_elim (λ low. low) (λ past. absurd (both_ways (is_leftover (get_or objects b None)) (ap is_leftover (get_or_past objects b None past)) given)) (cases_lt b (length objects))

pub left_there : (objects : List (Option Object)) (leftovers : SetState) → AreLeftovers objects leftovers → (o : Option ℕ) → IsLeastFrom (has leftovers) 0 o
    → IfSome o (λ b. is_leftover (get_or objects b None) ≡ true)
left_there objects leftovers are None none = tt
left_there objects leftovers are (Some b) found = sym (are.same b) ∙ found.1

module _ (least_is : (n k : ℕ) (t : ℕ → Bool) → (least_below n t ≡ Some k) ↔ IsLeastBelow n t k)
    (none_is : (n : ℕ) (t : ℕ → Bool) → (least_below n t ≡ None) ↔ ((k : ℕ) → k < n → t k ≡ false))
    (objects : List (Option Object)) (leftovers : SetState) (are : AreLeftovers objects leftovers) where
  pub least_left : (o : Option ℕ) → IsLeastFrom (has leftovers) 0 o → o ≡ least_below (length objects) (λ b. is_leftover (get_or objects b None))
  least_left None none =
      sym ((none_is (length objects) (λ b. is_leftover (get_or objects b None))).1 (λ k below. sym (are.same k) ∙ none k (omega arith)))
  least_left (Some b) found =
      let there = sym (are.same b) ∙ found.1 in
      sym ((least_is (length objects) b (λ k. is_leftover (get_or objects k None))).1 (record {
        below = left_within objects b there;
        passes = there;
        least = λ j less. sym (are.same j) ∙ found.2 j (omega arith) less;
      }))
