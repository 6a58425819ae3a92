-- What a line that is cut off leaves, and that it is a line whatever stands behind it.
use Rattle.std.proofs.Common.{◌≡◌, ◌==◌, ℕ, ◌+◌, ◌-◌, ◌<◌, ◌≤◌, suc, Bool, true, false, cond, not, nat_lt, List, [], ◌∷◌, ◌++◌, Some, None, length, get_or, take, drop, refl, sym, ap, ◌∙◌, subst, arith, append-nil, length-drop}
use Rattle.std.specs.List.{position, position_or_len, AllByRecursion}
use Rattle.std.proofs.Math.Seq.{take-suc}
use Rattle.std.proofs.lemmas.Bool.Decides.{nat_tests}
use Rattle.std.proofs.lemmas.List.{take_rest}
use Rattle.std.proofs.lemmas.List.Sums.{passes_at_first}
use Rattle.std.proofs.lemmas.Option.{cond_some}
use Rattle.kmem_text.specs.Grammar.{lines_of}
use Rattle.kmem_text.specs.Layout.{HasNoLineFeed}
use Rattle.kmem_text.proofs.LaidOut.{lines_read}

-- no line feed stands before the first
none_before : (bytes : List ℕ) → HasNoLineFeed (take (position_or_len (λ byte. byte == 10) bytes) bytes)
none_before [] = tt
none_before (b ∷ bytes) =
    elim (b == 10) as (λ t. (b == 10) ≡ t → HasNoLineFeed (take (cond (not t) (1 + position_or_len (λ byte. byte == 10) bytes) 0) (b ∷ bytes))) [
      | true ↦ λ e. tt
      | false ↦ λ e. let P : ℕ → Type 0 = λ n. HasNoLineFeed (take n (b ∷ bytes)) in
          let next : suc (position_or_len (λ byte. byte == 10) bytes) ≡ 1 + position_or_len (λ byte. byte == 10) bytes = omega arith in
          subst P next (e, none_before bytes)
    ] refl

-- what stands behind the line feed is what the input ends with
pub behind_is : (bytes rest : List ℕ) (end : ℕ) → position (λ byte. byte == 10) bytes ≡ Some end → rest ≡ take (length bytes - (end + 1)) (drop (end + 1) bytes) → rest ≡ drop (length bytes - length rest) bytes
behind_is bytes rest end h behind =
    let found = cond_some _ _ _ h in
    let below : position_or_len (λ byte. byte == 10) bytes < length bytes = grind (arith, nat_tests, found.0) in
    let is : rest ≡ drop (end + 1) bytes = behind ∙ take_rest bytes (end + 1) in
    is ∙ ap (λ n. drop n bytes) (omega (arith, ap length is, length-drop (end + 1) bytes, below, found.1))

-- the line is one, whatever stands behind its line feed
pub whole_line : (bytes rest more : List ℕ) (end : ℕ) → position (λ byte. byte == 10) bytes ≡ Some end → rest ≡ take (length bytes - (end + 1)) (drop (end + 1) bytes) → lines_of (take (length bytes - length rest) bytes ++ more) ≡ take end bytes ∷ lines_of more
whole_line bytes rest more end h behind =
    let p = λ (byte : ℕ). byte == 10 in
    let found = cond_some _ _ _ h in
    let below : position_or_len p bytes < length bytes = grind (arith, nat_tests, found.0) in
    let is : rest ≡ drop (end + 1) bytes = behind ∙ take_rest bytes (end + 1) in
    let count : length bytes - length rest ≡ suc end = omega (arith, ap length is, length-drop (end + 1) bytes, below, found.1) in
    let feed : p (get_or bytes end 0) ≡ true = ap (λ n. p (get_or bytes n 0)) (sym found.1) ∙ passes_at_first p bytes 0 below in
    let byte : get_or bytes end 0 ≡ 10 = grind (arith, nat_tests, feed) in
    let front : take (length bytes - length rest) bytes ≡ take end bytes ++ 10 ∷ [] =
    ap (λ n. take n bytes) count ∙ take-suc bytes end 0 (omega (arith, below, found.1)) ∙ ap (λ b. take end bytes ++ b ∷ []) byte in
    let plain : HasNoLineFeed (take end bytes) = subst (λ n. HasNoLineFeed (take n bytes)) found.1 (none_before bytes) in
    ap (λ xs. lines_of (xs ++ more)) (front ∙ sym (append-nil (take end bytes ++ 10 ∷ [])))
    ∙ lines_read (take end bytes ∷ []) more (plain, tt)
