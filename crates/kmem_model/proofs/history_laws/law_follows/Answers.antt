use Rattle.kmem_model.proofs.SettleEntries.{follows-append, follows_whole}
use Rattle.kmem_model.proofs.CacheCounts.{history_follows}
use Rattle.kmem_model.proofs.history_laws.law_follows.Goals as goal

pub returns-clause-chain : goal.returns-clause-chain
returns-clause-chain c = λ front rest s t u first second. follows-append front rest s t u first second

pub returns-clause-history : goal.returns-clause-history
returns-clause-history c = λ history s. history_follows history s

pub returns-clause-whole : goal.returns-clause-whole
returns-clause-whole c = λ s t entries whole e. follows_whole entries s t whole e
