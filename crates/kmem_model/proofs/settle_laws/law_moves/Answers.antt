use Rattle.kmem_model.proofs.SettleScan.{scan_whole, scan_from, begin_out, begin_known, end_legal, move_made, idle_stops}
use Rattle.kmem_model.proofs.settle_laws.law_moves.Goals as goal

pub returns-clause-started : goal.returns-clause-started
returns-clause-started c = λ stage cache whole e. (scan_whole stage cache whole e, scan_from stage cache e)

pub returns-clause-begun : goal.returns-clause-begun
returns-clause-begun c = λ stage j from to cache whole e.
    (begin_out stage j from to cache whole e, begin_known stage j from to cache whole e, λ said. end_legal stage j from to cache said whole e)

pub returns-clause-ended : goal.returns-clause-ended
returns-clause-ended c = λ course j from to begun ended whole begins ends. move_made course j from to begun ended whole begins ends

pub returns-clause-idle : goal.returns-clause-idle
returns-clause-idle c = λ course idle. idle_stops course idle
