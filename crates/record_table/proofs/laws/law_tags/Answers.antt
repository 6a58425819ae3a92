use Rattle.std.proofs.Common.{◌*◌, None, ap, ◌∙◌}
use Rattle.std.proofs.lemmas.List.{length-replicate}
use Rattle.kmem_model.specs.Records.{no_records, tag_place, held_at}
use Rattle.kmem_model.specs.History.{worker_of, map_after, IsEntryWithin, in_use, own_entries}
use Rattle.kmem_model.proofs.Legal.{map_after-append}
use Rattle.kmem_model.proofs.HistoryTags.{in_use_from, none_held}
use Rattle.record_table.proofs.Tags.{rest_keeps, later}
use Rattle.record_table.proofs.laws.law_tags.Goals as goal

pub returns-clause-own : goal.returns-clause-own
returns-clause-own c = λ names workers pass tag h small within legal range.
    in_use_from names workers pass tag (no_records names workers) h small within (length-replicate (8 * workers) None) legal range
    ∙ ap (λ b. in_use tag b (own_entries pass h)) (none_held names workers (tag_place (worker_of pass) tag))

pub returns-clause-kept : goal.returns-clause-kept
returns-clause-kept c = λ names workers pass tag h rest small worker within legal none.
    let start = no_records names workers in
    ap (λ m. held_at m (tag_place (worker_of pass) tag)) (map_after-append start h rest)
    ∙ rest_keeps names workers pass tag (map_after start h) rest small (later (IsEntryWithin names workers) h rest within) none
