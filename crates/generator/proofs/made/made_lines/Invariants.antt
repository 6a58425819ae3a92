use Rattle.std.proofs.Common.{◌≡◌, ◌*◌, map}
use Rattle.std.specs.List.{range_with_len}
use Rattle.generator.specs.Draws.{state_after}
use Rattle.generator.specs.Made.{made_line}
use Rattle.generator.proofs.made.made_lines.Given as goal

-- the lines so far, and three draws for each
abbrev pub invariant-loop-i : goal.invariant-loop-i
invariant-loop-i l = record {
  lines : l.lines.items ≡ map (made_line l.seed l.workers) (range_with_len 0 l.i);
  drawn : l.draws.state ≡ state_after l.seed (3 * l.i);
}
