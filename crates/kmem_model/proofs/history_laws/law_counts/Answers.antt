use Rattle.kmem_model.proofs.SettleWhole.{whole_kept}
use Rattle.kmem_model.proofs.CacheCounts.{history_counts, history_pending, follows_counts, follows_pending, by_passes, total-append}
use Rattle.kmem_model.proofs.history_laws.law_counts.Goals as goal

pub returns-clause-out : goal.returns-clause-out
returns-clause-out c = λ sizes history s positive e. history_counts sizes.slabs sizes.chunks sizes.limit history s positive e

pub returns-clause-pending : goal.returns-clause-pending
returns-clause-pending c = λ sizes history s e. history_pending sizes.slabs sizes.chunks sizes.limit history s e

pub returns-clause-out_along : goal.returns-clause-out_along
returns-clause-out_along c = λ s t entries whole e. follows_counts entries s t (whole_kept s whole) e

pub returns-clause-pending_along : goal.returns-clause-pending_along
returns-clause-pending_along c = λ s t entries e. follows_pending entries s t e

pub returns-clause-passes : goal.returns-clause-passes
returns-clause-passes c = λ passes weight history below. by_passes passes weight history below

pub returns-clause-lists : goal.returns-clause-lists
returns-clause-lists c = λ weight front rest. total-append weight front rest
