-- A text put into a page at a place.
use Rattle.std.proofs.Common.{◌≡◌, ℕ, ◌+◌, ◌≤◌, List, ◌++◌, length, take, sym, ap, ◌∙◌, arith, append_assoc, length-append, length-take-le}
use Rattle.std.proofs.lemmas.List.{take-take, take_at}

-- a text of n bytes at the front of what is put at a place
pub text_at : (page put text rest : List ℕ) (at n k : ℕ) → take (at + k) put ≡ take at page ++ (text ++ rest) → at ≤ length page → n ≡ length text → n ≤ k → take (at + n) put ≡ take at page ++ text
text_at page put text rest at n k whole small size fits =
    let start : length (take at page ++ text) ≡ at + n = length-append (take at page) text ∙ omega (arith, length-take-le at page small, size) in
    sym (take-take (at + n) (at + k) put (omega arith)) ∙ ap (take (at + n)) (whole ∙ sym (append_assoc (take at page) text rest)) ∙ take_at (take at page ++ text) rest (at + n) start

-- a text that n bytes hold is no longer
pub no_longer : (put text rest : List ℕ) (n : ℕ) → put ≡ text ++ rest → length put ≡ n → length text ≤ n
no_longer put text rest n is size = omega (arith, ap length is, length-append text rest, size)
