use Rattle.kmem_model.proofs.SamePlaces.{just_these}
use Rattle.kmem_model.proofs.run_laws.law_just_these.Goals as goal

pub returns : goal.returns
returns c = just_these
