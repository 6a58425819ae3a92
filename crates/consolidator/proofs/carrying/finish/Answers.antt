use Rattle.std.proofs.Common.{◌+◌, Option, Some, ap, ◌∙◌, sym, subst}
use Rattle.kmem_answers.specs.Words.{said_of}
use Rattle.kmem_buf.specs.Answers.{verdict_of, flagged, brought_by, fetched_by}
use Rattle.kmem_buf.specs.declared.client.Verdict.{Verdict}
use Rattle.kmem_model.specs.CacheCounts.{handed_by}
use Rattle.kmem_model.specs.declared.cache_entry.CacheEntry.{CacheEntry}
use Rattle.kmem_model.specs.declared.cache_entry.CacheEntry.TheVariants.{End}
use Rattle.object_cache.specs.Moves.{PendingState, JobState}
use Rattle.kmem_cache.specs.Seats.{CacheSeatState, HasActed}
use Rattle.consolidator.specs.Notes.{notes_by, noted}
use Rattle.consolidator.specs.Tallies.{tally_answered}
use Rattle.consolidator.proofs.Working.{verdict_said, notes_are, finished_asked}
use Rattle.consolidator.proofs.carrying.finish.Goals as goal

pub returns-in-Some-clause-finished : goal.returns-in-Some-clause-finished
returns-in-Some-clause-finished g c =
    let met = c.in-Some.ensures.acted in let verdict = verdict_of c.ask-answer.result in let said = said_of verdict in let client = g.C.MoveClient in
    let asked = c.ask-answer.ensures in let ended = c.end.ensures in let is = verdict_said verdict in let pending = c.part-pending.result.0 in
    let old = c.args.seat.now in let mid = c.still.new.seat in let new = c.end.new.seat in
    let notes = notes_by client.flags client.last client.answered client.brought client.fetched in
    let before = notes old c.args.tally.now c.args.client.now in
    let after = notes new c.count_answer.new.tally c.ask-answer.new.self in
    finished_asked c.args.cache.now old mid new before after c.args.job pending.no said
    (subst (λ (e : Option CacheEntry). HasActed old.pass mid.pass e) met.2.0 met.1)
    met.2.4
    met.2.2
    (ap (λ (p : PendingState). p.no) c.part-pending.ensures.0 ∙ ap (λ (j : JobState g.row.K-Object.Denot). j.move.no) met.2.1)
    ended.acted
    ended.seat
    (notes_are after (noted (End pending.no said) before)
    (ap (λ (s : CacheSeatState). s.lent) ended.seat ∙ ap (λ (s : CacheSeatState). s.lent) met.2.4)
    (ap (λ (s : CacheSeatState). s.returned) ended.seat ∙ ap (λ (s : CacheSeatState). s.returned + handed_by said) met.2.4)
    (c.count_answer.ensures ∙ ap (λ (v : Verdict). tally_answered (said_of v) c.args.tally.now) c.verdict.ensures)
    (asked.flags ∙ ap (λ (v : Verdict). flagged v before.flags) (sym is))
    (asked.last ∙ ap (λ (v : Verdict). Some v) (sym is))
    asked.answered
    (asked.counts.0 ∙ ap (λ (v : Verdict). before.brought + brought_by v) (sym is))
    (asked.counts.1 ∙ ap (λ (v : Verdict). before.fetched + fetched_by v) (sym is)))
