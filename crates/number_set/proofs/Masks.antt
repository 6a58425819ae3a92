-- Masks of the low places of a word.
use Rattle.std.proofs.Common.{◌≡◌, ℕ, suc, ◌+◌, ◌-◌, ◌/◌, ◌%◌, ◌^◌, ◌<◌, ◌≤◌, true, false, eqb, bit_and, ◌∙◌, ap, arith, w64}
use Rattle.std.specs.Int.{bit_at}
use Rattle.std.proofs.Math.Nat.{div-le_self, div-eq_of_lt-le, pow-suc}
use Rattle.std.proofs.lemmas.Nat.{leading_top}
use Rattle.std.proofs.lemmas.Nat.Bits.{ones_shr, bit_at_ones, bit_at_ones_above, bit_at_and, bit_at_not, bit_at-lt, bit_at_above, bit_at-zero}
use Rattle.number_set.specs.Places.{has_place}
use lib.Count.{count_leading_zeros}

abbrev low : ℕ → ℕ
low p = 18446744073709551615 / 2 ^ (63 - p)

low_is : (p : ℕ) → p < 64 → low p ≡ 2 ^ (p + 1) - 1
low_is p h = let e : 64 - (63 - p) ≡ p + 1 = omega arith in ones_shr 64 (63 - p) (omega arith) ∙ ap (λ k. 2 ^ k - 1) e

low_in : (p i : ℕ) → p < 64 → i ≤ p → bit_at (low p) i ≡ 1
low_in p i h le = ap (λ m. bit_at m i) (low_is p h) ∙ bit_at_ones (p + 1) i (omega arith)

low_over : (p i : ℕ) → p < 64 → p < i → bit_at (low p) i ≡ 0
low_over p i h lt = ap (λ m. bit_at m i) (low_is p h) ∙ bit_at_ones_above (p + 1) i (omega arith)

low_fits : (p : ℕ) → low p < 2 ^ 64
low_fits p = omega (arith, div-le_self 18446744073709551615 (2 ^ (63 - p)))

high_at : (p i : ℕ) → i < 64 → bit_at (18446744073709551615 - low p) i ≡ 1 - bit_at (low p) i
high_at p i below = bit_at_not w64 (low p) i (low_fits p) below

pub up_to_kept : (w p i : ℕ) → p < 64 → i ≤ p → has_place (bit_and w (low p)) i ≡ has_place w i
up_to_kept w p i h le =
    let e : bit_at (bit_and w (low p)) i ≡ bit_at w i = omega (arith, bit_at_and w (low p) i, low_in p i h le, bit_at-lt w i) in
    ap (λ b. eqb b 1) e

pub up_to_gone : (w p i : ℕ) → p < 64 → p < i → has_place (bit_and w (low p)) i ≡ false
up_to_gone w p i h lt =
    let e : bit_at (bit_and w (low p)) i ≡ 0 = omega (arith, bit_at_and w (low p) i, low_over p i h lt) in
    ap (λ b. eqb b 1) e

pub above_kept : (w p i : ℕ) → p < 64 → p < i → i < 64 → has_place (bit_and w (18446744073709551615 - low p)) i ≡ has_place w i
above_kept w p i h lt below =
    let e : bit_at (bit_and w (18446744073709551615 - low p)) i ≡ bit_at w i =
    omega (arith, bit_at_and w (18446744073709551615 - low p) i, high_at p i below, low_over p i h lt, bit_at-lt w i) in
    ap (λ b. eqb b 1) e

pub above_gone : (w p i : ℕ) → p < 64 → i ≤ p → has_place (bit_and w (18446744073709551615 - low p)) i ≡ false
above_gone w p i h le =
    let e : bit_at (bit_and w (18446744073709551615 - low p)) i ≡ 0 =
    omega (arith, bit_at_and w (18446744073709551615 - low p) i, high_at p i (omega arith), low_in p i h le) in
    ap (λ b. eqb b 1) e

top_place : (w j : ℕ) → 2 ^ j ≤ w → w < 2 ^ suc j → has_place w j ≡ true
top_place w j low high =
    let one_of : w / 2 ^ j ≡ 1 = div-eq_of_lt-le {k = 1} (2 ^ j) {m = w} (omega (arith, low)) (omega (arith, high, pow-suc 2 j)) in
    ap (λ q. eqb (q % 2) 1) one_of

pub highest_there : (w : ℕ) → 0 < w → w < 2 ^ 64 → has_place w (63 - count_leading_zeros 64 w) ≡ true
highest_there w some fits =
    let t = leading_top 64 w some fits in
    let e : 63 - count_leading_zeros 64 w ≡ t.0 = omega (arith, t.1) in
    ap (has_place w) e ∙ top_place w t.0 t.2 t.3

pub highest_over : (w i : ℕ) → 0 < w → w < 2 ^ 64 → 63 - count_leading_zeros 64 w < i → has_place w i ≡ false
highest_over w i some fits after =
    let t = leading_top 64 w some fits in
    ap (λ b. eqb b 1) (bit_at_above w (suc t.0) i t.3 (omega (arith, t.1, after)))

pub place_of_zero : (i : ℕ) → has_place 0 i ≡ false
place_of_zero i = ap (λ b. eqb b 1) (bit_at-zero i)
