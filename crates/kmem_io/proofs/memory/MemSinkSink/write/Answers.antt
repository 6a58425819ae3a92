use Rattle.std.proofs.Common.{ap, arith}
use Rattle.kmem_io.proofs.memory.MemSinkSink.write.Goals as goal

pub overflow_add-self : goal.overflow_add-self
overflow_add-self c = omega (arith, ap (λ v. v.faults) c.self.view_is, c.requires)
