use Rattle.std.proofs.Common.{◌≡◌, ◌-◌, ℕ, length}
use Rattle.kmem_cache.specs.Seats.{IsCacheSeat}
use Rattle.move_queue.specs.Queue.{IsQueueSeat}
use Rattle.consolidator.specs.Works.{work_by}
use Rattle.consolidator.specs.Drives.{HasRoom}
use Rattle.consolidator.proofs.Counts.{HasCalmly}
use Rattle.consolidator.proofs.driving.drain.Given as goal

-- jobs were carried
abbrev pub invariant-jobs : goal.invariant-jobs
invariant-jobs g l =
    let client = g.C.MoveClient in let now = work_by client.flags client.last client.answered client.brought client.fetched in
    let old = now l.fn.seat l.fn.place l.fn.tally l.fn.client in let new = now l.seat l.place l.tally l.client in record {
      of : IsCacheSeat l.cache l.seat × IsQueueSeat l.queue l.place;
      home : client.home l.client ≡ client.home l.fn.client;
      sign : client.sign l.client ≡ client.sign l.fn.client;
      room : (scans others : ℕ) → HasRoom l.queue.terms.quotas scans others old → HasRoom l.queue.terms.quotas scans others new;
      calm : HasCalmly old new;
    }

-- pops that are left
abbrev pub decreases-jobs : goal.decreases-jobs
decreases-jobs g l = l.queue.terms.quotas - length l.place.popped
