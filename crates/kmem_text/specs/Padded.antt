-- A short text in a row of bytes of a fixed length, with zeros behind it.
use Rattle.std.specs.Prelude.{◌≡◌, ℕ, ◌-◌, ◌≤◌, Bool, true, List, ◌++◌, length, take, replicate}
use Rattle.std.proofs.Common.{sym, ap, ◌∙◌, length-take-le, arith}

-- the first len bytes pass the test, and zeros stand behind them
pub record IsPadded (test : List ℕ → Bool) (size : ℕ) (bytes : List ℕ) (len : ℕ) : Type 0 where
  pub whole : length bytes ≡ size
  pub fits : len ≤ size
  pub passes : test (take len bytes) ≡ true
  pub zeros : bytes ≡ take len bytes ++ replicate (size - len) 0

-- so the text alone gives the row and its length back
pub unpadded : (test : List ℕ → Bool) (size : ℕ) (bytes : List ℕ) (len : ℕ) → IsPadded test size bytes len →
    ((take len bytes ++ replicate (size - length (take len bytes)) 0) ≡ bytes) × (length (take len bytes) ≡ len)
unpadded test size bytes len h =
    let same : length (take len bytes) ≡ len = length-take-le len bytes (omega (arith, h.whole, h.fits)) in
    (ap (λ n. take len bytes ++ replicate (size - n) 0) same ∙ sym h.zeros, same)
