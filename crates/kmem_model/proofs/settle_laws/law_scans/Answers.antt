use Rattle.kmem_model.proofs.SettleScanned.{scan_says}
use Rattle.kmem_model.proofs.SettleEnds.{forget_inside, forget_starts, scan_goes_on, scan_is_last}
use Rattle.kmem_model.proofs.settle_laws.law_scans.Goals as goal

pub returns-clause-forgotten : goal.returns-clause-forgotten
returns-clause-forgotten c = λ stage cache whole e. (forget_inside stage cache whole e, forget_starts stage cache e)

pub returns-clause-inside : goal.returns-clause-inside
returns-clause-inside c = λ stage scan inside e. (scan_says stage scan inside e).inside

pub returns-clause-further : goal.returns-clause-further
returns-clause-further c = λ course scan inside e more. scan_goes_on course scan inside e more

pub returns-clause-last : goal.returns-clause-last
returns-clause-last c = λ course scan e done. scan_is_last course scan e done
