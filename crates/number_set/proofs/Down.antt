-- Searches that go down from a level to the one below it.
use Rattle.std.proofs.Common.{◌≡◌, ◌≢◌, ℕ, ◌+◌, ◌*◌, ◌/◌, ◌%◌, ◌<◌, ◌≤◌, Bool, true, false, eqb, not, cond, List, length, get_or, set, refl, Option, Some, None, ⊎_elim, sym, ◌∙◌, ap, ap₂, arith}
use Rattle.std.proofs.lemmas.Bool.{cases_eq, cases_lt, both_ways, cases_Bool, eqb-true, eqb-false, eq-eqb, ne_eqb}
use Rattle.std.proofs.lemmas.List.{get_or_past, get_or-set_same, get_or-set_other}
use Rattle.std.proofs.lemmas.Nat.{div-mul-add, mod-mul-add, div-add-mod', mod_below}
use mathlib.Core.Bool.{beq}
use Rattle.number_set.specs.Places.{has_place, is_marked, IsLeastFrom, IsLastBelow}
use Rattle.number_set.specs.Levels.{SumsUp}
use Rattle.number_set.proofs.Masks.{place_of_zero}

-- a place of a word that is 0
pub zero_word : (ws : List ℕ) (k : ℕ) → get_or ws (k / 64) 0 ≡ 0 → is_marked ws k ≡ false
zero_word ws k none = ap (λ w. has_place w (k % 64)) none ∙ place_of_zero (k % 64)

pub marked_within : (ws : List ℕ) (k : ℕ) → is_marked ws k ≡ true → k < length ws * 64
marked_within ws k given =
    ⊎_elim (λ (below : k / 64 < length ws). omega (arith, below, div-add-mod' k 64, mod_below k 64 (omega arith)))
    (λ past. absurd (both_ways (is_marked ws k) (zero_word ws k (get_or_past ws (k / 64) 0 past)) given))
    (cases_lt (k / 64) (length ws))

-- a number by its word and its place
pub by_place : (ws : List ℕ) (at r : ℕ) → r < 64 → is_marked ws (at * 64 + r) ≡ has_place (get_or ws at 0) r
by_place ws at r low =
    ap₂ (λ i j. has_place (get_or ws i 0) j) (div-mul-add at 64 r low) (mod-mul-add at 64 r low)

module _ (test : ℕ → Bool) where
  pub least_extend : (a b : ℕ) (o : Option ℕ) → a ≤ b → ((k : ℕ) → a ≤ k → k < b → test k ≡ false) → IsLeastFrom test b o → IsLeastFrom test a o
  least_extend a b None le gap all = λ k from. ⊎_elim (λ low. gap k from low) (λ high. all k high) (cases_lt k b)
  least_extend a b (Some n) le gap found =
      (omega (arith, found.0, le), found.1, λ k from below. ⊎_elim (λ low. gap k from low) (λ high. found.2 k high below) (cases_lt k b))

  pub last_extend : (a b : ℕ) (o : Option ℕ) → a ≤ b → ((k : ℕ) → a ≤ k → k < b → test k ≡ false) → IsLastBelow test a o → IsLastBelow test b o
  last_extend a b None le gap all = λ k below. ⊎_elim (λ low. all k low) (λ high. gap k high below) (cases_lt k a)
  last_extend a b (Some n) le gap found =
      (omega (arith, found.0, le), found.1, λ k after below. ⊎_elim (λ low. found.2 k after low) (λ high. gap k high below) (cases_lt k a))

-- within one word
module _ (ws : List ℕ) (at : ℕ) where
  pub least_word : (r : ℕ) → r < 64 → has_place (get_or ws at 0) r ≡ true → ((i : ℕ) → i < r → has_place (get_or ws at 0) i ≡ false) →
      IsLeastFrom (is_marked ws) (at * 64) (Some (at * 64 + r))
  least_word r low there least = (
    omega arith,
    by_place ws at r low ∙ there,
    λ k from below.
        let same : k / 64 ≡ at = omega (arith, from, below, low) in
        let under : k % 64 < r = omega (arith, from, below, low) in
        ap (λ i. has_place (get_or ws i 0) (k % 64)) same ∙ least (k % 64) under,
  )

  pub last_word : (r : ℕ) → r < 64 → has_place (get_or ws at 0) r ≡ true → ((i : ℕ) → r < i → has_place (get_or ws at 0) i ≡ false) →
      IsLastBelow (is_marked ws) (at * 64 + 64) (Some (at * 64 + r))
  last_word r low there greatest = (
    omega arith,
    by_place ws at r low ∙ there,
    λ k after below.
        let same : k / 64 ≡ at = omega (arith, after, below, low) in
        let over : r < k % 64 = omega (arith, after, below, low) in
        ap (λ i. has_place (get_or ws i 0) (k % 64)) same ∙ greatest (k % 64) over,
  )

-- from a level to the one below it
module _ (lower upper : List ℕ) (sums : SumsUp lower upper) where
  -- a word whose number the upper level doesn't have is 0
  pub word_zero : (i : ℕ) → is_marked upper i ≡ false → get_or lower i 0 ≡ 0
  word_zero i missing = eqb-true (get_or lower i 0) 0 (⊎_elim (λ given. given) (λ other. absurd (both_ways (is_marked upper i) missing (sums i ∙ ap not other))) (cases_Bool (eqb (get_or lower i 0) 0)))

  pub word_some : (i : ℕ) → is_marked upper i ≡ true → 0 < get_or lower i 0
  word_some i given =
      ⊎_elim (λ (some : 0 < get_or lower i 0). some)
      (λ none. let zero : get_or lower i 0 ≡ 0 = omega (arith, none) in absurd (both_ways (is_marked upper i) (sums i ∙ ap (λ w. not (eqb w 0)) zero) given))
      (cases_lt 0 (get_or lower i 0))

  pub index_within : (i : ℕ) → is_marked upper i ≡ true → i < length lower
  index_within i given =
      ⊎_elim (λ below. below)
      (λ past. absurd (omega (arith, word_some i given, get_or_past lower i 0 past)))
      (cases_lt i (length lower))

  pub least_none : (from : ℕ) → IsLeastFrom (is_marked upper) from None → IsLeastFrom (is_marked lower) (from * 64) None
  least_none from none = λ k after. zero_word lower k (word_zero (k / 64) (none (k / 64) (omega (arith, after))))

  pub least_down : (from at r : ℕ) → IsLeastFrom (is_marked upper) from (Some at) →
      r < 64 → has_place (get_or lower at 0) r ≡ true → ((i : ℕ) → i < r → has_place (get_or lower at 0) i ≡ false) →
      IsLeastFrom (is_marked lower) (from * 64) (Some (at * 64 + r))
  least_down from at r found low there least =
      least_extend (is_marked lower) (from * 64) (at * 64) (Some (at * 64 + r)) (omega (arith, found.0))
      (λ k after below. zero_word lower k (word_zero (k / 64) (found.2 (k / 64) (omega (arith, after)) (omega (arith, below)))))
      (least_word lower at r low there least)

  pub last_none : (to : ℕ) → IsLastBelow (is_marked upper) to None → IsLastBelow (is_marked lower) (to * 64) None
  last_none to none = λ k below. zero_word lower k (word_zero (k / 64) (none (k / 64) (omega (arith, below))))

  pub last_down : (to at r : ℕ) → IsLastBelow (is_marked upper) to (Some at) →
      r < 64 → has_place (get_or lower at 0) r ≡ true → ((i : ℕ) → r < i → has_place (get_or lower at 0) i ≡ false) →
      IsLastBelow (is_marked lower) (to * 64) (Some (at * 64 + r))
  last_down to at r found low there greatest =
      last_extend (is_marked lower) (at * 64 + 64) (to * 64) (Some (at * 64 + r)) (omega (arith, found.0))
      (λ k after below. zero_word lower k (word_zero (k / 64) (found.2 (k / 64) (omega (arith, after)) (omega (arith, below)))))
      (last_word lower at r low there greatest)

-- past the rest of one word
module _ (ws : List ℕ) (place rest : ℕ) (empty : rest ≡ 0) where
  pub after_gap : ((i : ℕ) → place % 64 < i → i < 64 → has_place rest i ≡ has_place (get_or ws (place / 64) 0) i) →
      (k : ℕ) → place + 1 ≤ k → k < (place / 64 + 1) * 64 → is_marked ws k ≡ false
  after_gap kept k after below =
      let same : k / 64 ≡ place / 64 = omega (arith, after, below) in
      ap (λ i. has_place (get_or ws i 0) (k % 64)) same
      ∙ (sym (kept (k % 64) (omega (arith, after, below)) (omega arith))
      ∙ (ap (λ w. has_place w (k % 64)) empty ∙ place_of_zero (k % 64)))

  pub before_gap : ((i : ℕ) → i ≤ place % 64 → has_place rest i ≡ has_place (get_or ws (place / 64) 0) i) →
      (k : ℕ) → place / 64 * 64 ≤ k → k < place + 1 → is_marked ws k ≡ false
  before_gap kept k after below =
      let same : k / 64 ≡ place / 64 = omega (arith, after, below) in
      ap (λ i. has_place (get_or ws i 0) (k % 64)) same
      ∙ (sym (kept (k % 64) (omega (arith, after, below)))
      ∙ (ap (λ w. has_place w (k % 64)) empty ∙ place_of_zero (k % 64)))

-- a word that is written
module _ (ws : List ℕ) (place new : ℕ) (there : Bool) (within : place / 64 < length ws)
    (here : has_place new (place % 64) ≡ there)
    (others : (i : ℕ) → i < 64 → i ≢ place % 64 → has_place new i ≡ has_place (get_or ws (place / 64) 0) i) where
  pub put_marked : (n : ℕ) → is_marked (set ws (place / 64) new) n ≡ cond (eqb n place) there (is_marked ws n)
  put_marked n =
      ⊎_elim
      (λ same.
      ⊎_elim
      (λ (it : n ≡ place).
      ap (λ m. is_marked (set ws (place / 64) new) m) it
      ∙ (ap (λ w. has_place w (place % 64)) (get_or-set_same ws (place / 64) new 0 within)
      ∙ (here ∙ sym (ap (λ b. cond b there (is_marked ws n)) (eq-eqb n place it)))))
      (λ apart.
      let other : n % 64 ≢ place % 64 = λ e. apart (omega (arith, same, e, div-add-mod' n 64, div-add-mod' place 64)) in
      ap (λ i. has_place (get_or (set ws (place / 64) new) i 0) (n % 64)) same
      ∙ (ap (λ w. has_place w (n % 64)) (get_or-set_same ws (place / 64) new 0 within)
      ∙ (others (n % 64) (omega arith) other
      ∙ (ap (λ i. has_place (get_or ws i 0) (n % 64)) (sym same) ∙ sym (ap (λ b. cond b there (is_marked ws n)) (ne_eqb n place apart))))))
      (cases_eq n place))
      (λ apart.
      let far : n ≢ place = λ e. apart (ap (λ m. m / 64) e) in
      ap (λ w. has_place w (n % 64)) (get_or-set_other ws (place / 64) (n / 64) new 0 apart)
      ∙ sym (ap (λ b. cond b there (is_marked ws n)) (ne_eqb n place far)))
      (cases_eq (n / 64) (place / 64))

  -- the level above follows where the word is 0 from now on, or was until now
  pub put_sums : (upper now : List ℕ) → SumsUp ws upper → there ≡ not (eqb new 0) →
      ((i : ℕ) → is_marked now i ≡ cond (eqb i (place / 64)) there (is_marked upper i)) → SumsUp (set ws (place / 64) new) now
  put_sums upper now sums follows marked i =
      ⊎_elim
      (λ (it : i ≡ place / 64).
      marked i ∙ (ap (λ b. cond b there (is_marked upper i)) (eq-eqb i (place / 64) it)
      ∙ (follows ∙ sym (ap (λ w. not (eqb w 0)) (ap (λ j. get_or (set ws (place / 64) new) j 0) it ∙ get_or-set_same ws (place / 64) new 0 within)))))
      (λ apart.
      marked i ∙ (ap (λ b. cond b there (is_marked upper i)) (ne_eqb i (place / 64) apart)
      ∙ (sums i ∙ sym (ap (λ w. not (eqb w 0)) (get_or-set_other ws (place / 64) i new 0 apart)))))
      (cases_eq i (place / 64))

-- where a word is 0 from now on, or was until now, it has a place exactly where this one is put in
pub follows_from : (old new r : ℕ) (there : Bool) → has_place new r ≡ there → (there ≡ false → new ≤ old) → (eqb old 0 ≡ eqb new 0 → ⊥) →
    there ≡ not (eqb new 0)
follows_from old new r true here less apart =
    ⊎_elim
    (λ (none : eqb new 0 ≡ true).
    absurd (both_ways (has_place new r) (ap (λ w. has_place w r) (eqb-true new 0 none) ∙ place_of_zero r) here))
    (λ some. sym (ap not some))
    (cases_Bool (eqb new 0))
follows_from old new r false here less apart =
    ⊎_elim
    (λ none. sym (ap not none))
    (λ some.
    ⊎_elim
    (λ (was : eqb old 0 ≡ true).
    absurd (eqb-false new 0 some (omega (arith, less refl, eqb-true old 0 was))))
    (λ was. absurd (apart (was ∙ sym some)))
    (cases_Bool (eqb old 0)))
    (cases_Bool (eqb new 0))

pub same_tests : (a b : Bool) → a ≡ b → not (beq a b) ≡ true → ⊥
same_tests true true e h = absurd (both_ways false refl h)
same_tests true false e h = absurd (both_ways true e refl)
same_tests false true e h = absurd (both_ways false refl e)
same_tests false false e h = absurd (both_ways false refl h)
