use Rattle.std.proofs.Common.{◌≡◌, None, replicate}
use Rattle.record_heap.proofs.rack.Rack.create.Given as goal

abbrev pub invariant-loop : goal.invariant-loop
invariant-loop l = l.bufs.items ≡ replicate l.counter None
