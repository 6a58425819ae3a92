-- The first bad line of an input is counted from 1.
use Rattle.std.proofs.Common.{◌≡◌, ℕ, ◌+◌, ◌≤◌, List, [], ◌∷◌, Option, Some, None, Result, Ok, Err, ap, arith}
use Rattle.kmem_text.specs.Grammar.{tokens_of, spelled_of, fault_or, first_bad, first_bad_of, lines_of}
use Rattle.kmem_text.specs.declared.spelling.LineFault.{LineFault}
use Rattle.kmem_text.specs.declared.spelling.SpelledLine.{SpelledLine}

abbrev number_in : Option (ℕ × LineFault) → ℕ
number_in None = 0
number_in (Some bad) = bad.0

this_or : (workers n : ℕ) (found : Result (Option SpelledLine) LineFault) (lines : List (List ℕ)) (k : ℕ) (f : LineFault) → ((k' : ℕ) (f' : LineFault) → first_bad workers (n + 1) lines ≡ Some (k', f') → n + 1 ≤ k') → fault_or n found (first_bad workers (n + 1) lines) ≡ Some (k, f) → n ≤ k
this_or workers n (Err e) lines k f later is = let same : n ≡ k = ap number_in is in omega arith
this_or workers n (Ok found) lines k f later is = let behind : n + 1 ≤ k = later k f is in omega arith

pub counted_from : (workers n : ℕ) (lines : List (List ℕ)) (k : ℕ) (f : LineFault) → first_bad workers n lines ≡ Some (k, f) → n ≤ k
counted_from workers n [] k f is = absurd (cc)
counted_from workers n (line ∷ lines) k f is = this_or workers n (spelled_of workers (tokens_of line)) lines k f (counted_from workers (n + 1) lines) is

pub first_bad_counted : (workers : ℕ) (bytes : List ℕ) (k : ℕ) (f : LineFault) → first_bad_of workers bytes ≡ Some (k, f) → 1 ≤ k
first_bad_counted workers bytes k f is = counted_from workers 1 (lines_of bytes) k f is
