-- Short texts in rows of bytes.
use Rattle.std.proofs.Common.{◌≡◌, ℕ, ◌-◌, ◌≤◌, Bool, true, ◌&&◌, List, ◌++◌, length, take, drop, replicate, sym, ap, ◌∙◌, arith, length-append}
use Rattle.std.proofs.lemmas.List.{take_at, drop-replicate, length-replicate}
use Rattle.std.proofs.lemmas.Bool.Decides.{nat_tests}
use Rattle.kmem_text.specs.Padded.{IsPadded}
use Rattle.kmem_text.specs.Texts.{is_within}

-- a text that passes the test, put at the front of a row of zeros
pub padded : (test : List ℕ → Bool) (size : ℕ) (text row zeros : List ℕ) → row ≡ text → zeros ≡ replicate size 0 → test text ≡ true → length text ≤ size → IsPadded test size (row ++ drop (length text) zeros) (length text)
padded test size text row zeros same empty passes fits =
    let back : drop (length text) zeros ≡ replicate (size - length text) 0 = ap (drop (length text)) empty ∙ drop-replicate (length text) size 0 in
    let front : take (length text) (row ++ drop (length text) zeros) ≡ text = take_at row _ (length text) (ap length same) ∙ same in
    record {
      whole = length-append row (drop (length text) zeros) ∙ omega (arith, ap length same, ap length back, length-replicate {A = ℕ} (size - length text) 0);
      fits = fits;
      passes = ap test front ∙ passes;
      zeros = ap (λ xs. xs ++ drop (length text) zeros) same ∙ ap (λ ys. text ++ ys) back ∙ ap (λ xs. xs ++ replicate (size - length text) 0) (sym front);
    }

-- so many elements fit a range that they lie in
pub fits_within : (low high n : ℕ) (b : Bool) → (is_within low high n && b) ≡ true → n ≤ high
fits_within low high n b h = grind (arith, nat_tests)
