use Rattle.std.proofs.Common.{◌∙◌, ◌+◌, ◌-◌, List, ℕ, take, drop, ap, sym, arith}
use Rattle.kmem_io.proofs.Pieces.{read_piece}
use Rattle.kmem_io.proofs.memory.MemSourceSource.read.Goals as goal

pub overflow_add-self : goal.overflow_add-self
overflow_add-self c = omega (arith, ap (λ v. v.faults) c.self.view_is, c.requires)

pub returns-clause-given : goal.returns-clause-given
returns-clause-given c =
    let at = c.self.inside.at in
    let n = c.min-n.result in
    let same = ap (λ (zs : List ℕ). take (at + n - at) (drop at zs)) c.deref-2.ensures.value in
    read_piece _ c.self.inside.bytes.items _ _ at n (sym (ap (λ v. v.left) c.self.view_is)) (omega arith) (c.copy_from_slice.ensures.after ∙ same)
