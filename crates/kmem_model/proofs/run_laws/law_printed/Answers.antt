use Rattle.kmem_model.proofs.Printed.{printed_alike}
use Rattle.kmem_model.proofs.run_laws.law_printed.Goals as goal

pub returns : goal.returns
returns c = printed_alike
