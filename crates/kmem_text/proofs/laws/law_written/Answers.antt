use Rattle.kmem_text.proofs.LaidOut.{written_good, written_script}
use Rattle.kmem_text.proofs.laws.law_written.Goals as goal

pub returns-clause-good : goal.returns-clause-good
returns-clause-good c = written_good

pub returns-clause-script : goal.returns-clause-script
returns-clause-script c = written_script
