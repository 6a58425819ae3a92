-- What holds of each command that is read: its worker is one of the workers.
use Rattle.std.proofs.Common.{◌≡◌, ℕ, ◌<◌, ◌≤◌, Bool, true, false, ◌&&◌, cond, List, [], ◌∷◌, ◌++◌, Some, None, Result, Ok, Err, IfOk, refl, arith}
use Rattle.std.specs.List.{AllByRecursion, All}
use Rattle.std.specs.Str.Parse.{digits_value}
use Rattle.std.proofs.lemmas.Bool.Decides.{nat_tests}
use Rattle.std.proofs.lemmas.List.Elements.{All-from_recursion}
use Rattle.kmem_text.specs.Texts.{is_within}
use Rattle.kmem_text.specs.Numbers.{number_within, is_numeral}
use Rattle.kmem_text.specs.Words.{◌>>=◌, or_fault, command_of}
use Rattle.kmem_text.specs.Grammar.{tokens_of, holds_command, line_of, spelled_of, found_in, spelled_lines}
use Rattle.kmem_text.specs.declared.spelling.LineFault.{LineFault}
use Rattle.kmem_text.specs.declared.spelling.LineFault.TheVariants as fault
use Rattle.kmem_text.specs.declared.spelling.Spelled.{Spelled}
use Rattle.kmem_text.specs.declared.spelling.SpelledLine.{SpelledLine}

-- what holds of each element of two lists holds of each of both in a row
pub both : {X : Type 0} (P : X → Type 0) (xs ys : List X) → AllByRecursion P xs → AllByRecursion P ys → AllByRecursion P (xs ++ ys)
both P [] ys h k = k
both P (x ∷ xs) ys h k = (h.0, both P xs ys h.1 k)

-- the worker is one of so many
abbrev IsWorker : ℕ → SpelledLine → Type 0
IsWorker most line = (0 < line.worker) × (line.worker ≤ most)

number_ranged : (most value : ℕ) (b : Bool) → is_within 1 most value ≡ b → (numeral : Bool) → IfOk (or_fault fault.Worker (cond (numeral && b) (Some value) None)) (λ w. (0 < w) × (w ≤ most))
number_ranged most value true h true = (grind (arith, nat_tests), grind (arith, nat_tests))
number_ranged most value true h false = tt
number_ranged most value false h true = tt
number_ranged most value false h false = tt

with_command : (most w : ℕ) (command : Result Spelled LineFault) → (0 < w) × (w ≤ most) → IfOk (command >>= λ c. Ok (record { worker = w; command = c })) (IsWorker most)
with_command most w (Ok c) h = h
with_command most w (Err e) h = tt

with_worker : (most : ℕ) (worker : Result ℕ LineFault) (command : Result Spelled LineFault) → IfOk worker (λ w. (0 < w) × (w ≤ most)) → IfOk (worker >>= λ w. command >>= λ c. Ok (record { worker = w; command = c })) (IsWorker most)
with_worker most (Ok w) command h = with_command most w command h
with_worker most (Err e) command h = tt

line_read : (most : ℕ) (tokens : List (List ℕ)) → IfOk (line_of most tokens) (IsWorker most)
line_read most [] = tt
line_read most (worker ∷ tokens) =
    with_worker most (or_fault fault.Worker (number_within 1 most worker)) (command_of tokens)
    (number_ranged most (digits_value 10 worker) (is_within 1 most (digits_value 10 worker)) refl (is_numeral worker))

found_read : (P : SpelledLine → Type 0) (r : Result SpelledLine LineFault) → IfOk r P → AllByRecursion P (found_in (r >>= λ line. Ok (Some line)))
found_read P (Ok line) h = (h, tt)
found_read P (Err e) h = tt

spelled_read : (most : ℕ) (tokens : List (List ℕ)) → AllByRecursion (IsWorker most) (found_in (spelled_of most tokens))
spelled_read most tokens =
    elim (holds_command tokens) as (λ b. AllByRecursion (IsWorker most) (found_in (cond b (line_of most tokens >>= λ line. Ok (Some line)) (Ok None)))) [
      | true ↦ found_read (IsWorker most) (line_of most tokens) (line_read most tokens)
      | false ↦ tt
    ]

lines_read : (most : ℕ) (lines : List (List ℕ)) → AllByRecursion (IsWorker most) (spelled_lines most lines)
lines_read most [] = tt
lines_read most (line ∷ lines) = both (IsWorker most) (found_in (spelled_of most (tokens_of line))) (spelled_lines most lines) (spelled_read most (tokens_of line)) (lines_read most lines)

-- the worker of each command that lines spell is one of those
pub workers_read : (most : ℕ) (lines : List (List ℕ)) → All (λ (line : SpelledLine). (0 < line.worker) × (line.worker ≤ most)) (spelled_lines most lines)
workers_read most lines = All-from_recursion _ _ (lines_read most lines)
