use Rattle.std.proofs.Common.{refl}
use Rattle.kmem_model.specs.Records.{id_of, held_at}
use Rattle.kmem_model.proofs.StepValid.{start_valid, step_keeps, put_keeps, del_keeps, link_keeps, hold_keeps, write_keeps, drop_keeps, fix_keeps}
use Rattle.kmem_model.proofs.StepTags.{tags_stay, tag_held, tag_not_held, tag_dropped}
use Rattle.kmem_model.proofs.record_laws.law_step.Goals as goal

pub returns-clause-start : goal.returns-clause-start
returns-clause-start c = λ names workers. start_valid names workers

pub returns-clause-valid : goal.returns-clause-valid
returns-clause-valid c = λ map worker command valid range. step_keeps map worker command valid range

pub returns-clause-tags : goal.returns-clause-tags
returns-clause-tags c = λ map worker command leaves. tags_stay map worker command leaves

pub returns-clause-held : goal.returns-clause-held
returns-clause-held c = λ map worker tag name done. tag_held map worker tag name done

pub returns-clause-not_held : goal.returns-clause-not_held
returns-clause-not_held c = λ map worker tag name other. tag_not_held map worker tag name other

pub returns-clause-dropped : goal.returns-clause-dropped
returns-clause-dropped c = λ map worker tag there. tag_dropped map worker tag there

pub returns-clause-put : goal.returns-clause-put
returns-clause-put c = λ map name value valid below. (put_keeps map name value below valid (id_of map name) refl).valid

pub returns-clause-del : goal.returns-clause-del
returns-clause-del c = λ map name valid. (del_keeps map name valid (id_of map name) refl).valid

pub returns-clause-link : goal.returns-clause-link
returns-clause-link c = λ map name other valid below. (link_keeps map name other below valid (id_of map name) refl).valid

pub returns-clause-hold : goal.returns-clause-hold
returns-clause-hold c = λ map place name valid below. (hold_keeps map place name below valid (held_at map place) (id_of map name) refl refl).valid

pub returns-clause-write : goal.returns-clause-write
returns-clause-write c = λ map value held valid. (write_keeps map value valid held).valid

pub returns-clause-drop : goal.returns-clause-drop
returns-clause-drop c = λ map place valid. (drop_keeps map place valid (held_at map place) refl).valid

pub returns-clause-fix : goal.returns-clause-fix
returns-clause-fix c = λ map fixed id valid. (fix_keeps map fixed valid id).valid
