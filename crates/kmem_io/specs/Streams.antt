-- What reads and writes do to what a source has left and a sink holds, where they tell it, and to their counts of faults.
use Rattle.std.specs.Prelude.{◌≡◌, ℕ, ◌-◌, ◌^◌, ◌<◌, List, ◌++◌, MatchResult, Result, Option, None, Some}
use Rattle.std.specs.Io.KnownBytes.{Appends, Keeps}
use Rattle.std.proofs.Common.{sym, ap, ◌∙◌, append_assoc}

-- a count that can still rise: its last value is 2^64 - 1 (this project's own rule)
abbrev pub CanRise : ℕ → Type 0
CanRise count = count < 2 ^ 64 - 1

-- the count of faults rose exactly where the call failed
abbrev pub CountsFaults : {T E : Type 0} → ℕ → ℕ → Result T E → Type 0
CountsFaults old new result = MatchResult result (λ _. new ≡ old) (λ _. old < new)

-- some front of the bytes was appended
abbrev pub AppendsFront : Option (List ℕ) → Option (List ℕ) → List ℕ → Type 0
AppendsFront old new bytes = (front rest : List ℕ) × (bytes ≡ front ++ rest) × Appends old new front

-- first one piece was appended, and then another
pub Appends-then : (a b c : Option (List ℕ)) (xs ys : List ℕ) → Appends a b xs → Appends b c ys → Appends a c (xs ++ ys)
Appends-then None b c xs ys p q = tt
Appends-then (Some x) None c xs ys p q = absurd p
Appends-then (Some x) (Some y) None xs ys p q = absurd q
Appends-then (Some x) (Some y) (Some z) xs ys p q = q ∙ ap (λ w. w ++ ys) p ∙ append_assoc x xs ys

-- a piece was appended, and then nothing
pub Appends-kept : (a b c : Option (List ℕ)) (xs : List ℕ) → Appends a b xs → Keeps b c → Appends a c xs
Appends-kept None b c xs p q = tt
Appends-kept (Some x) None c xs p q = absurd p
Appends-kept (Some x) (Some y) None xs p q = absurd q
Appends-kept (Some x) (Some y) (Some z) xs p q = q ∙ p

-- a piece was appended, and then a front of the next, so a front of the whole was
pub AppendsFront-behind : (a b c : Option (List ℕ)) (before piece rest whole : List ℕ) → Appends a b before → before
    ++ (piece ++ rest) ≡ whole → AppendsFront b c piece → AppendsFront a c whole
AppendsFront-behind a b c before piece rest whole p same q = (
  before ++ q.0,
  q.1 ++ rest,
  sym same ∙ ap (λ xs. before ++ (xs ++ rest)) q.2 ∙ ap (λ xs. before ++ xs) (append_assoc q.0 q.1 rest)
      ∙ sym (append_assoc before q.0 (q.1 ++ rest)),
  Appends-then a b c before q.0 p q.3,
)
