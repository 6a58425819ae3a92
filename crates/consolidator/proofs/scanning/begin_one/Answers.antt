use Rattle.std.proofs.Common.{Option, refl, ap, subst}
use Rattle.kmem_model.specs.declared.cache_entry.CacheEntry.{CacheEntry}
use Rattle.kmem_model.specs.declared.cache_entry.CacheEntry.TheVariants.{Begin}
use Rattle.kmem_cache.specs.Seats.{CacheSeatState, HasActed}
use Rattle.consolidator.specs.Notes.{noted}
use Rattle.consolidator.specs.Works.{work_by}
use Rattle.consolidator.proofs.Working.{notes_are}
use Rattle.consolidator.proofs.Trying.{tried_one}
use Rattle.consolidator.proofs.scanning.begin_one.Goals as goal

pub returns-in-Ok-clause-begun : goal.returns-in-Ok-clause-begun
returns-in-Ok-clause-begun g c =
    let client = g.C.MoveClient in let now = work_by client.flags client.last client.answered client.brought client.fetched in
    let begun = c.in-Ok.ensures in let job = c.in-Ok.job in
    let old = now c.args.seat.now c.args.place.now c.args.tally.now c.args.client.now in
    let mid = now c.begin.new.seat c.args.place.now c.count_begun.new.tally c.args.client.now in
    let new = now c.put.new.seat c.put.new.place c.put.new.tally c.put.new.client in
    tried_one old mid new job.move.no job.move.from job.move.to
    (subst (λ (e : Option CacheEntry). HasActed old.seat.pass mid.seat.pass e) begun.acted.2.0 begun.acted.1)
    begun.lent
    refl
    (notes_are mid.notes (noted (Begin job.move.no job.move.from job.move.to) old.notes)
    (ap (λ (s : CacheSeatState). s.lent) begun.lent)
    (ap (λ (s : CacheSeatState). s.returned) begun.lent)
    c.count_begun.ensures refl refl refl refl refl)
    c.put.ensures.tried
