use Rattle.std.proofs.Common.{[]}
use Rattle.kmem_model.specs.OneRun.{run_start}
use Rattle.kmem_model.proofs.Legal.{legal_from, shared_from, replies_from, full_on, line_buffers}
use Rattle.kmem_model.proofs.record_laws.law_one.Goals as goal

pub returns-clause-legal : goal.returns-clause-legal
returns-clause-legal c = λ slabs chunks names every lines positive. legal_from every 1 (run_start slabs chunks names) [] lines positive

pub returns-clause-shared : goal.returns-clause-shared
returns-clause-shared c = λ slabs chunks names every lines positive pass. shared_from every 1 (run_start slabs chunks names) [] lines pass positive

pub returns-clause-replies : goal.returns-clause-replies
returns-clause-replies c = λ every start lines. replies_from every 1 start [] lines

pub returns-clause-full : goal.returns-clause-full
returns-clause-full c = λ capacity number every run before line lines positive due after. full_on capacity every number run before line lines positive due after

pub returns-clause-buffers : goal.returns-clause-buffers
returns-clause-buffers c = λ every number run line. line_buffers every number run line
