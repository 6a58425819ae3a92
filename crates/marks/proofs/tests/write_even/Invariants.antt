use Rattle.std.proofs.Common.{◌≡◌}
use Rattle.marks.proofs.tests.write_even.Given as goal

abbrev pub invariant-loop-i : goal.invariant-loop-i
invariant-loop-i l = l.pen.home ≡ l.marks.home
