use Rattle.std.proofs.Common.{◌≡◌}
use Rattle.marks.proofs.tests.read_all.Given as goal

abbrev pub invariant-loop-i : goal.invariant-loop-i
invariant-loop-i l = l.seat.home ≡ l.marks.home
