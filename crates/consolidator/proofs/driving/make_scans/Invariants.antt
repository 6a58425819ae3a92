use Rattle.std.proofs.Common.{◌≡◌, ◌+◌, ◌*◌, ℕ}
use Rattle.kmem_cache.specs.Seats.{IsCacheSeat}
use Rattle.move_queue.specs.Queue.{IsQueueSeat}
use Rattle.consolidator.specs.Notes.{notes_by}
use Rattle.consolidator.specs.Works.{work_by}
use Rattle.consolidator.specs.Drives.{HasRoom, HasRounds, ArePaced}
use Rattle.consolidator.proofs.driving.make_scans.Given as goal

-- so many scans were made, and there is room for the others
abbrev pub invariant-loop-i : goal.invariant-loop-i
invariant-loop-i g l =
    let client = g.C.MoveClient in let now = work_by client.flags client.last client.answered client.brought client.fetched in
    let old = now l.fn.seat l.fn.place l.fn.tally l.fn.client in let new = now l.seat l.place l.tally l.client in record {
      of : IsCacheSeat l.cache l.seat × IsQueueSeat l.queue l.place;
      home : client.home l.client ≡ client.home l.fn.client;
      sign : client.sign l.client ≡ client.sign l.fn.client;
      room : (scans others : ℕ) → HasRoom l.queue.terms.quotas (scans + l.i) others old → HasRoom l.queue.terms.quotas scans others new;
      rounds : HasRounds l.plan.desperate l.i old new;
      paced : ArePaced (notes_by client.flags client.last client.answered client.brought client.fetched) g.P.Pace.seen
          (λ i. g.P.Pace.share l.pace (l.plan.first + 2 * i)) l.plan.desperate l.i old;
    }
