use Rattle.kmem_text.proofs.LaidOut.{lines_read, tokens_read, laid_feeds, commands_stay, faults_stay}
use Rattle.kmem_text.proofs.laws.law_layout.Goals as goal

pub returns-clause-lines : goal.returns-clause-lines
returns-clause-lines c = lines_read

pub returns-clause-tokens : goal.returns-clause-tokens
returns-clause-tokens c = tokens_read

pub returns-clause-one_line : goal.returns-clause-one_line
returns-clause-one_line c = laid_feeds

pub returns-clause-commands : goal.returns-clause-commands
returns-clause-commands c = commands_stay

pub returns-clause-faults : goal.returns-clause-faults
returns-clause-faults c = faults_stay
