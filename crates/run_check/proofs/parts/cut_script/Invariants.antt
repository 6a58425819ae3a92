use Rattle.std.proofs.Common.{◌≡◌, ◌+◌, ◌≤◌, length}
use Rattle.run_check.proofs.CutParts.{IsCut}
use Rattle.run_check.proofs.parts.cut_script.Given as goal

-- the lines so far are the script's
abbrev pub invariant-cutting : goal.invariant-cutting
invariant-cutting l = record {
  small : l.taken + length l.rest ≤ length l.bytes;
  cut : IsCut l.bytes l.rest l.taken;
}

abbrev pub decreases-cutting : goal.decreases-cutting
decreases-cutting l = length l.rest
