use Rattle.std.proofs.Common.{◌≡◌, ◌≤◌, replicate, None, vec_capacity}
use Rattle.record_table.proofs.opening.no_holds.Given as goal

abbrev pub invariant-loop-tag : goal.invariant-loop-tag
invariant-loop-tag l = record {
  holds : l.holds.items ≡ replicate l.tag None;
  room : 8 ≤ vec_capacity l.holds;
}
