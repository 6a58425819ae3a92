use Rattle.run_summary.proofs.Adding.{all_counted, none_full, begins}
use Rattle.run_summary.proofs.laws.law_summary.Goals as goal

pub returns-clause-all : goal.returns-clause-all
returns-clause-all c = all_counted

pub returns-clause-full : goal.returns-clause-full
returns-clause-full c = none_full

pub returns-clause-first : goal.returns-clause-first
returns-clause-first c = begins
