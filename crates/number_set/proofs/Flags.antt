-- The numbers of a set, and the places of its lowest level.
use Rattle.std.proofs.Common.{◌≡◌, ℕ, ◌+◌, ◌-◌, ◌*◌, ◌<◌, Bool, false, eqb, cond, List, length, get_or, set, Option, Some, None, ⊎_elim, sym, ◌∙◌, ap, arith, length-set}
use Rattle.std.proofs.lemmas.Bool.{cases_eq, cases_lt, eq-eqb, ne_eqb, false_from_ne_true}
use Rattle.std.proofs.lemmas.List.{get_or_past, get_or-set_same, get_or-set_other, ext_get_or}
use Rattle.std.proofs.lemmas.List.FromFn.{length-map-range_with_len, get_or-map-range_with_len}
use Rattle.number_set.specs.Places.{is_marked, flags_of, IsLeastFrom, IsLastBelow}
use Rattle.number_set.specs.Levels.{level_of, AreLevels, AreSized, SumsFrom}
use Rattle.number_set.proofs.Down.{marked_within}

pub length-flags : (ws : List ℕ) → length (flags_of ws) ≡ length ws * 64
length-flags ws = length-map-range_with_len (is_marked ws) 0 (length ws * 64)

pub flag_is : (ws : List ℕ) (n : ℕ) → get_or (flags_of ws) n false ≡ is_marked ws n
flag_is ws n =
    ⊎_elim
    (λ low. get_or-map-range_with_len (is_marked ws) 0 (length ws * 64) n n false low (omega arith))
    (λ high.
    get_or_past (flags_of ws) n false (omega (arith, high, length-flags ws))
    ∙ sym (false_from_ne_true (is_marked ws n) (λ given. absurd (omega (arith, high, marked_within ws n given)))))
    (cases_lt n (length ws * 64))

module _ (f g : ℕ → Bool) (same : (k : ℕ) → f k ≡ g k) where
  pub least_same : (from : ℕ) (o : Option ℕ) → IsLeastFrom g from o → IsLeastFrom f from o
  least_same from None none = λ k after. same k ∙ none k after
  least_same from (Some n) found = (found.0, same n ∙ found.1, λ k after below. same k ∙ found.2 k after below)

  pub last_same : (to : ℕ) (o : Option ℕ) → IsLastBelow g to o → IsLastBelow f to o
  last_same to None none = λ k below. same k ∙ none k below
  last_same to (Some n) found = (found.0, same n ∙ found.1, λ k after below. same k ∙ found.2 k after below)

-- with one place put in or taken out
pub flags_put : (old new : List ℕ) (place : ℕ) (there : Bool) → length new ≡ length old → place < length old * 64 →
    ((n : ℕ) → is_marked new n ≡ cond (eqb n place) there (is_marked old n)) → flags_of new ≡ set (flags_of old) place there
flags_put old new place there size within marked =
    ext_get_or false (flags_of new) (set (flags_of old) place there)
    (length-flags new ∙ (ap (λ n. n * 64) size ∙ sym (length-set (flags_of old) place there ∙ length-flags old)))
    (λ n below.
    flag_is new n ∙ (marked n ∙ ⊎_elim
    (λ (it : n ≡ place).
    ap (λ b. cond b there (is_marked old n)) (eq-eqb n place it)
    ∙ sym (ap (λ m. get_or (set (flags_of old) place there) m false) it ∙ get_or-set_same (flags_of old) place there false (omega (arith, within, length-flags old))))
    (λ apart.
    ap (λ b. cond b there (is_marked old n)) (ne_eqb n place apart)
    ∙ sym (get_or-set_other (flags_of old) place n there false apart ∙ flag_is old n))
    (cases_eq n place)))

pub levels_put : (old new : List (List ℕ)) → AreLevels old → length new ≡ length old →
    ((k : ℕ) → length (level_of new k) ≡ length (level_of old k)) → SumsFrom 0 new → AreLevels new
levels_put old new levels count sizes sums =
    let s : AreSized old = levels.sized in
    record {
      sized = record {
        some = omega (arith, s.some, count);
        few = λ k. omega (arith, s.few k, sizes k);
        fits = λ k inside. omega (arith, s.fits k (omega (arith, inside, count)), sizes k, sizes (k + 1));
        top = ap (λ n. length (level_of new (n - 1))) count ∙ (sizes (length old - 1) ∙ s.top);
      };
      sums = sums;
    }
