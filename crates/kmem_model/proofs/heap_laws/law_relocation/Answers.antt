use Rattle.kmem_model.proofs.Relocates.{moved_stands, without_stands}
use Rattle.kmem_model.proofs.heap_laws.law_relocation.Goals as goal

pub returns-clause-moved : goal.returns-clause-moved
returns-clause-moved c = λ m a h old new stands empty low answer.
    record { valid = stands.valid; paired = moved_stands m a h old new stands.valid stands.paired empty low answer }

pub returns-clause-unneeded : goal.returns-clause-unneeded
returns-clause-unneeded c = λ m a h old stands unneeded.
    record { valid = stands.valid; paired = without_stands m a h old stands.valid stands.paired unneeded }
