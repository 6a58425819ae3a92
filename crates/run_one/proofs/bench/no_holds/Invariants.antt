use Rattle.std.proofs.Common.{◌≡◌, ℕ, None, length, slice_index_or}
use Rattle.run_one.proofs.bench.no_holds.Given as goal

abbrev pub invariant-loop-place : goal.invariant-loop-place
invariant-loop-place l = record {
  size : length l.holds.items ≡ l.place;
  none : (n : ℕ) → slice_index_or l.holds.items n None ≡ None;
}
