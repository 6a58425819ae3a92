use Rattle.std.proofs.Common.{⊎_elim, ◌*◌}
use Rattle.std.proofs.lemmas.Bool.{both_ways}
use Rattle.std.proofs.lemmas.List.{length-replicate}
use Rattle.std.proofs.Common.{None, ◌∙◌, ap}
use Rattle.kmem_model.specs.Records.{no_records, tag_place}
use Rattle.kmem_model.specs.History.{worker_of, in_use, own_entries}
use Rattle.kmem_model.proofs.HistoryTags.{in_use_from, taken_from, held_from, fixed_from, none_held, none_fixed}
use Rattle.kmem_model.proofs.history_laws.law_taken.Goals as goal

pub returns-clause-in_use : goal.returns-clause-in_use
returns-clause-in_use c = λ names workers pass tag h small within legal range.
    in_use_from names workers pass tag (no_records names workers) h small within (length-replicate (8 * workers) None) legal range
    ∙ ap (λ b. in_use tag b (own_entries pass h)) (none_held names workers (tag_place (worker_of pass) tag))

pub returns-clause-taken : goal.returns-clause-taken
returns-clause-taken c = λ tag entries e. taken_from tag entries e

pub returns-clause-held : goal.returns-clause-held
returns-clause-held c = λ names workers place h legal held.
    ⊎_elim (λ before. absurd (both_ways _ (none_held names workers place) before)) (λ is. is) (held_from (no_records names workers) h place legal held)

pub returns-clause-fixed : goal.returns-clause-fixed
returns-clause-fixed c = λ names workers id h legal fixed.
    ⊎_elim (λ before. absurd (both_ways _ (none_fixed names workers id) before)) (λ is. is) (fixed_from (no_records names workers) h id legal fixed)
