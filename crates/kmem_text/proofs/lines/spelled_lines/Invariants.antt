use Rattle.std.proofs.Common.{◌≡◌, ◌+◌, ◌≤◌, length, vec_capacity}
use Rattle.kmem_text.specs.Grammar.{lines_of, first_bad, first_bad_of, spelled_lines}
use Rattle.kmem_text.proofs.Parts.{KeepsFirst}
use Rattle.kmem_text.proofs.lines.spelled_lines.Given as goal

-- the lines so far are good, and what they and the rest spell is what the input spells
abbrev pub invariant-cutting : goal.invariant-cutting
invariant-cutting l = record {
  number : l.number + length l.rest ≤ length l.bytes;
  few : length l.lines.items ≤ 100001;
  room : 5 ≤ vec_capacity l.tokens;
  good : first_bad l.workers (l.number + 1) (lines_of l.rest) ≡ first_bad_of l.workers l.bytes;
  lines : KeepsFirst l.lines.items (spelled_lines l.workers (lines_of l.rest)) (spelled_lines l.workers (lines_of l.bytes));
}

abbrev pub decreases-cutting : goal.decreases-cutting
decreases-cutting l = length l.rest
