use Rattle.run_workers.proofs.Sharing.{shared_by}
use Rattle.run_workers.proofs.laws.law_shared.Goals as goal

pub returns : goal.returns
returns c = shared_by
