use Rattle.std.proofs.Common.{◌≡◌, ◌≤◌, length, vec_capacity}
use Rattle.kmem_buf.specs.Stubs.{AreUnissued}
use Rattle.kmem_buf.proofs.stub.Stub.create_all.Given as goal

abbrev pub invariant-loop : goal.invariant-loop
invariant-loop l = (length l.stubs.items ≡ l.counter) × AreUnissued l.stubs.items × (l.count ≤ vec_capacity l.stubs)
