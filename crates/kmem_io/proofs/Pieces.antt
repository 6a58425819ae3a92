-- How the words on known bytes go on from call to call.
use Rattle.std.proofs.Common.{◌≡◌, ℕ, ◌+◌, ◌-◌, length, List, ◌++◌, Option, take, drop, sym, ap, ◌∙◌, subst, length-drop, ◌≤◌, arith, length-take-le}
use Rattle.std.proofs.Math.Seq.{take-add}
use Rattle.std.proofs.lemmas.List.{take-append-drop, take_rest, take_at, drop-drop}
use Rattle.std.specs.Io.KnownBytes.{Appends, Keeps}
use Rattle.kmem_io.specs.Streams.{AppendsFront, Appends-then, Appends-kept}

-- the next n bytes after the first at
pub Appends-more : (a b c : Option (List ℕ)) (at n : ℕ) (xs : List ℕ) → Appends a b (take at xs) → Appends b c (take n (take (length xs - at) (drop at xs))) → Appends a c (take (at + n) xs)
Appends-more a b c at n xs p q =
    let P = λ (ys : List ℕ). Appends a c ys in
    let e : take n (take (length xs - at) (drop at xs)) ≡ take n (drop at xs) = ap (take n) (take_rest xs at) in
    subst P (ap (λ zs. take at xs ++ zs) e ∙ sym (take-add at n xs)) (Appends-then a b c (take at xs) _ p q)

-- a front of the bytes was appended, and then nothing
pub AppendsFront-kept : (a b c : Option (List ℕ)) (at : ℕ) (xs : List ℕ) → Appends a b (take at xs) → Keeps b c → AppendsFront a c xs
AppendsFront-kept a b c at xs p q = (take at xs, drop at xs, sym (take-append-drop at xs), Appends-kept a b c (take at xs) p q)

-- what is left from a place on has so many elements
pub length-take_rest : (xs : List ℕ) (at : ℕ) → length (take (length xs - at) (drop at xs)) ≡ length xs - at
length-take_rest xs at = ap length (take_rest xs at) ∙ length-drop at xs

-- n bytes from a place on stand at the front of the buffer, and the others are left
pub read_piece : (left xs ys rest : List ℕ) (at n : ℕ) → left ≡ drop at xs → at + n ≤ length xs → ys ≡ take (at + n - at) (drop at xs) → left ≡ take n (ys ++ rest) ++ drop (at + n) xs
read_piece left xs ys rest at n from fits copied =
    let same : at + n - at ≡ n = omega arith in
    let size : length ys ≡ n = ap length copied ∙ length-take-le (at + n - at) (drop at xs) (simp length-drop (omega arith)) ∙ same in
    let piece : take n (ys ++ rest) ≡ take n (drop at xs) = take_at ys rest n size ∙ copied ∙ ap (λ k. take k (drop at xs)) same in
    from ∙ sym (take-append-drop n (drop at xs)) ∙ ap (λ zs. zs ++ drop n (drop at xs)) (sym piece) ∙ ap (λ zs. take n (ys ++ rest) ++ zs) (drop-drop n at xs)
