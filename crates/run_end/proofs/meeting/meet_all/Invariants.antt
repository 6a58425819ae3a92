use Rattle.std.proofs.Common.{◌≡◌, ◌<◌, ℕ, true, is_some}
use Rattle.kmem_model.specs.CacheState.{is_out}
use Rattle.kmem_model.specs.Heap.{object_at}
use Rattle.run_end.proofs.meeting.meet_all.Given as goal

-- those of the objects so far
abbrev pub invariant-loop-b : goal.invariant-loop-b
invariant-loop-b l = record {
  cache : l.cache ≡ l.fn.cache;
  heap : l.heap ≡ l.fn.heap;
  out : (k : ℕ) → k < l.b → is_some (object_at l.fn.heap.heap k) ≡ true → is_out l.fn.cache.state k ≡ true;
}
