use Rattle.std.proofs.Common.{◌≡◌, take}
use Rattle.run_summary.specs.Counts.{counts_in}
use Rattle.run_summary.proofs.counts.count.Given as goal

-- the replies so far are counted
abbrev pub invariant-loop-entry : goal.invariant-loop-entry
invariant-loop-entry l = l.counts ≡ counts_in (take l.entry-index l.entries)
