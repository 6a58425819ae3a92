use Rattle.std.proofs.Common.{◌∙◌, sym}
use Rattle.kmem_model.specs.CacheState.{opening}
use Rattle.kmem_model.specs.CacheCounts.{entries_in}
use Rattle.kmem_model.proofs.CacheCounts.{history_follows}
use Rattle.kmem_model.proofs.SettleEntries.{follows_whole}
use Rattle.kmem_model.proofs.SettleWhole.{enter_whole, answer_whole, without_move_whole, opening_whole, opening_stage}
use Rattle.kmem_model.proofs.settle_laws.law_whole.Goals as goal

pub returns-clause-opening : goal.returns-clause-opening
returns-clause-opening c = λ sizes some more. opening_stage sizes.slabs sizes.chunks sizes.limit some more

pub returns-clause-kept : goal.returns-clause-kept
returns-clause-kept c = λ s t entry whole e. enter_whole s t entry whole e

pub returns-clause-answered : goal.returns-clause-answered
returns-clause-answered c = λ s b said whole. answer_whole s b said whole

pub returns-clause-unpended : goal.returns-clause-unpended
returns-clause-unpended c = λ s j whole. without_move_whole s j whole

pub returns-clause-reached : goal.returns-clause-reached
returns-clause-reached c = λ sizes history s some more e.
    follows_whole (entries_in history) (opening sizes) s (opening_whole sizes.slabs sizes.chunks sizes.limit some more) (sym (history_follows history (opening sizes)) ∙ e)
