-- What stands behind the front of a line.
use Rattle.std.proofs.Common.{◌≡◌, ◌≢◌, ◌↔◌, ◌+◌, ℕ, Option, Some, None, MatchOption, Bor, Bool, true, false, List, [], ◌∷◌, ◌++◌, length, take, drop, refl, sym, ap, ◌∙◌, append_assoc}
use Rattle.std.specs.Str.{bytes_eq}
use Rattle.std.proofs.Math.Seq.{take-append_seam}
use Rattle.std.proofs.lemmas.Bool.{true≢false}
use Rattle.std.proofs.lemmas.List.{take-append-drop, append_cancel_left}
use Rattle.std.proofs.lemmas.Option.{none-some}
use Rattle.kmem_text.specs.Replies.{reply_text}
use Rattle.kmem_text.specs.ReplyRows.{IsReplyTo}
use Rattle.kmem_text.specs.declared.command.Command.{Command}
use Rattle.kmem_text.specs.declared.command.Reply.{Reply}
use Rattle.std.proofs.lemmas.Slice.Eq.{bytes_eq-Decides}

-- a line that begins with a front is that front and what is dropped
pub front_is : (line front : List ℕ) → bytes_eq (take (length front) line) front ≡ true → line ≡ front ++ drop (length front) line
front_is line front h = sym (take-append-drop (length front) line) ∙ ap (λ xs. xs ++ drop (length front) line) ((bytes_eq-Decides _ _).0 h)

-- a line that doesn't begin with it has nothing behind it
pub front_is_not : (line front rest : List ℕ) → bytes_eq (take (length front) line) front ≡ false → line ≢ front ++ rest
front_is_not line front rest h is =
    let same : take (length front) line ≡ front = ap (take (length front)) is ∙ take-append_seam front rest in
    true≢false (sym ((bytes_eq-Decides (take (length front) line) front).1 same) ∙ h)

same_rest : (xs ys : List ℕ) → xs ≡ ys → drop 1 xs ≡ drop 1 ys
same_rest xs ys e = ap (drop 1) e

-- what is stripped off stands behind the place and a space
pub behind_front : (line front place : List ℕ) (o : Option (Bor (List ℕ))) → front ≡ place ++ 32 ∷ [] → MatchOption o (bytes_eq (take (length front) line) front ≡ false) (λ x. (bytes_eq (take (length front) line) front ≡ true) × (x.now ≡ drop (length front) line) × (length x.now + length front ≡ length line)) → MatchOption o ((rest : List ℕ) → line ≢ place ++ 32 ∷ rest) (λ x. line ≡ place ++ 32 ∷ x.now)
behind_front line front place None is h = λ rest e. front_is_not line front rest h (e ∙ sym (append_assoc place (32 ∷ []) rest) ∙ ap (λ xs. xs ++ rest) (sym is))
behind_front line front place (Some x) is h = front_is line front h.0 ∙ ap (λ xs. xs ++ drop (length front) line) is ∙ append_assoc place (32 ∷ []) (drop (length front) line) ∙ ap (λ xs. place ++ 32 ∷ xs) (sym h.1)

-- a line that tells a reply is read as it, where the text behind the place is
pub told_again : (line place text : List ℕ) (result : Option Reply) (names : List (List ℕ)) (command : Command) → line ≡ place ++ 32 ∷ text → ((reply : Reply) → (result ≡ Some reply) ↔ (IsReplyTo (length names) command reply × (text ≡ reply_text names reply))) → (reply : Reply) → (result ≡ Some reply) ↔ (IsReplyTo (length names) command reply × (line ≡ place ++ 32 ∷ reply_text names reply))
told_again line place text result names command is h reply = (
  λ e. let told = (h reply).0 e in (told.0, is ∙ ap (λ t. place ++ 32 ∷ t) told.1),
  λ k. (h reply).1 (k.0, same_rest (32 ∷ text) (32 ∷ reply_text names reply) (append_cancel_left place _ _ (sym is ∙ k.1))),
)

-- a line without the place tells none
pub told_none : (line place : List ℕ) (result : Option Reply) (names : List (List ℕ)) (command : Command) → result ≡ None → ((rest : List ℕ) → line ≢ place ++ 32 ∷ rest) → (reply : Reply) → (result ≡ Some reply) ↔ (IsReplyTo (length names) command reply × (line ≡ place ++ 32 ∷ reply_text names reply))
told_none line place result names command none h reply = (λ e. absurd (none-some reply (sym none ∙ e)), λ k. absurd (h (reply_text names reply) k.1))
