-- Digits read from the front, up to a cap.
use Rattle.std.proofs.Common.{◌≡◌, ℕ, ◌+◌, ◌-◌, ◌*◌, ◌^◌, ◌<◌, ◌≤◌, Bool, true, false, ◌&&◌, zero, suc, List, [], ◌∷◌, min, length, get_or, take, sym, ap, ◌∙◌, arith}
use Rattle.std.specs.Char.{digit_value}
use Rattle.std.specs.List.{list_all}
use Rattle.std.specs.Str.Parse.{digits_value}
use Rattle.std.proofs.lemmas.Int.Digits.{digits_value_more}
use Rattle.std.proofs.lemmas.Bool.Decides.{nat_tests}
use Rattle.std.proofs.lemmas.Bool.{false≢true}
use Rattle.kmem_text.specs.Texts.{is_within}

and_right : (a b : Bool) → (a && b) ≡ true → b ≡ true
and_right true b h = h
and_right false b h = absurd (false≢true h)

-- one more digit
pub capped_more : (digits : List ℕ) (i digit value : ℕ) → i < length digits → digit ≡ get_or digits i 0 → 48 ≤ digit → digit ≤ 57 → value ≡ min (digits_value 10 (take i digits)) (2 ^ 32) → min (10 * value + (digit - 48)) (2 ^ 32) ≡ min (digits_value 10 (take (i + 1) digits)) (2 ^ 32)
capped_more digits i digit value small is low high so_far =
    let worth : digit_value digit ≡ digit - 48 = grind (arith, nat_tests) in
    let more : digits_value 10 (take (i + 1) digits) ≡ digits_value 10 (take i digits) * 10 + digit_value digit = digits_value_more 10 digits i small ∙ ap (λ d. digits_value 10 (take i digits) * 10 + digit_value d) (sym is) in
    omega (arith, worth, more, so_far)

-- each of some digits is one
pub digit_range : (digits : List ℕ) (i : ℕ) → list_all (is_within 48 57) digits ≡ true → i < length digits → (48 ≤ get_or digits i 0) × (get_or digits i 0 ≤ 57)
digit_range [] i all small = absurd (omega arith)
digit_range (x ∷ digits) zero all small = grind (arith, nat_tests)
digit_range (x ∷ digits) (suc i) all small = digit_range digits i (and_right (is_within 48 57 x) (list_all (is_within 48 57) digits) all) (omega arith)
