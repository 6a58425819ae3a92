use Rattle.kmem_model.proofs.OneSteps.{start_ends, looking_ends, idle_ends, leaving_ends, replaced_ends, made_ends, reused_ends, refused_ends, kept_ends, ended_ends, maps_are, one_tags_stay, full_ends}
use Rattle.kmem_model.proofs.StepReplies.{one_within}
use Rattle.kmem_model.proofs.record_laws.law_one_step.Goals as goal

pub returns-clause-leaving : goal.returns-clause-leaving
returns-clause-leaving c = λ s h new worker command. leaving_ends s h new worker command

pub returns-clause-replaced : goal.returns-clause-replaced
returns-clause-replaced c = λ s h new worker name value. replaced_ends s h new worker name value

pub returns-clause-made : goal.returns-clause-made
returns-clause-made c = λ s h new t worker name value b. made_ends s h new t worker name value b

pub returns-clause-reused : goal.returns-clause-reused
returns-clause-reused c = λ s h new worker name value b. reused_ends s h new worker name value b

pub returns-clause-refused : goal.returns-clause-refused
returns-clause-refused c = λ s h worker name value. refused_ends s h worker name value

pub returns-clause-kept : goal.returns-clause-kept
returns-clause-kept c = λ s h new worker name. kept_ends s h new worker name

pub returns-clause-ended : goal.returns-clause-ended
returns-clause-ended c = λ s h new t worker name b. ended_ends s h new t worker name b

pub returns-clause-start : goal.returns-clause-start
returns-clause-start c = λ slabs chunks names h. start_ends slabs chunks names h

pub returns-clause-looking : goal.returns-clause-looking
returns-clause-looking c = λ s h worker command. looking_ends s h worker command

pub returns-clause-idle : goal.returns-clause-idle
returns-clause-idle c = λ s h worker command tag. idle_ends s h worker command tag

pub returns-clause-within : goal.returns-clause-within
returns-clause-within c = λ s worker command. one_within s worker command

pub returns-clause-maps : goal.returns-clause-maps
returns-clause-maps c = λ s worker command. maps_are s worker command

pub returns-clause-tags : goal.returns-clause-tags
returns-clause-tags c = λ s worker command. one_tags_stay s worker command

pub returns-clause-full : goal.returns-clause-full
returns-clause-full c = λ s h worker command stands. full_ends s h worker command stands
