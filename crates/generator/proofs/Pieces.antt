-- Pieces put into a room one behind the other, and the text of a line.
use Rattle.std.proofs.Common.{◌≡◌, ℕ, ◌+◌, ◌-◌, ◌≤◌, List, [], ◌∷◌, ◌++◌, take, drop, map, refl, sym, ap, ◌∙◌, arith, append-nil}
use Rattle.std.specs.List.{flat_map}
use Rattle.std.specs.Fmt.{decimal}
use Rattle.std.proofs.lemmas.List.{drop-drop, take-append-drop}
use Rattle.kmem_text.specs.Layout.{Spaced, command_tokens, written}
use Rattle.kmem_text.specs.declared.bytes.TheConstants.{SPACE, LINE_FEED}
use Rattle.kmem_text.specs.declared.spelling.Spelled.{Spelled}
use Rattle.generator.specs.Lines.{spaced}

-- what is the same from one place on is the same from a later one on
pub later : (m n : ℕ) (xs ys : List ℕ) → m ≤ n → drop m xs ≡ drop m ys → drop n xs ≡ drop n ys
later m n xs ys le same =
    let split : n ≡ m + (n - m) = omega (arith, le) in
    ap (λ k. drop k xs) split ∙ sym (drop-drop (n - m) m xs) ∙ ap (drop (n - m)) same ∙ drop-drop (n - m) m ys ∙ ap (λ k. drop k ys) (sym split)

-- the tokens behind the first one
spaced_is : (tokens : List (List ℕ)) →
    flat_map (λ (part : Spaced). part.blanks ++ part.token) (map (λ token. record { blanks = SPACE ∷ []; token = token }) tokens) ≡ spaced tokens
spaced_is [] = refl
spaced_is (token ∷ tokens) = ap (λ xs. (SPACE ∷ token) ++ xs) (spaced_is tokens)

-- the text of a line: the worker, the tokens of the command and a line feed
pub text_of_line : (worker : ℕ) (command : Spelled) →
    (decimal worker ++ spaced (command_tokens command)) ++ LINE_FEED ∷ [] ≡ written (record { worker = worker; command = command } ∷ [])
text_of_line worker command =
    ap (λ xs. (decimal worker ++ xs) ++ LINE_FEED ∷ []) (sym (append-nil _ ∙ spaced_is (command_tokens command)))
    ∙ sym (append-nil _)

-- a room is what stands before a place and from there on
pub put_together : (n : ℕ) (room text old : List ℕ) → take n room ≡ text → drop n room ≡ drop n old → room ≡ text ++ drop n old
put_together n room text old front rest = sym (take-append-drop n room) ∙ ap (λ xs. xs ++ drop n room) front ∙ ap (λ xs. text ++ xs) rest
