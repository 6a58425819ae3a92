use Rattle.std.proofs.Common.{◌≡◌, ◌<◌, ℕ, false, None, is_none, slice_index_or}
use Rattle.object_cache.proofs.moves.Moves.free_number.Given as goal

abbrev pub invariant-loop-number : goal.invariant-loop-number
invariant-loop-number l = (k : ℕ) → k < l.number → is_none (slice_index_or l.self.pending k None) ≡ false
