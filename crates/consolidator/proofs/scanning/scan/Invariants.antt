use Rattle.std.proofs.Common.{◌≡◌, ◌+◌, ◌*◌, ◌^◌, ◌<◌, ◌≤◌}
use Rattle.kmem_cache.specs.Seats.{IsCacheSeat}
use Rattle.move_queue.specs.Queue.{IsQueueSeat}
use Rattle.consolidator.specs.Works.{work_by}
use Rattle.consolidator.proofs.Trying.{HasTriedAll}
use Rattle.consolidator.proofs.scanning.scan.Given as goal

-- so many moves were begun since the scan was started, and there is room for the others
abbrev pub invariant-loop-i : goal.invariant-loop-i
invariant-loop-i g l =
    let client = g.C.MoveClient in let now = work_by client.flags client.last client.answered client.brought client.fetched in record {
      of : IsCacheSeat l.cache l.seat × IsQueueSeat l.queue l.place;
      left : 129 ≤ l.seat.pass.left + 2 * l._i;
      place : 64 ≤ l.place.left + l._i;
      refused : l.place.refused < 2 ^ 62 + l._i;
      brought : client.brought l.client < 2 ^ 61 + l._i;
      fetched : client.fetched l.client < 2 ^ 61 + l._i;
      home : client.home l.client ≡ client.home l.fn.client;
      sign : client.sign l.client ≡ client.sign l.fn.client;
      begun : HasTriedAll l.desperate l._i (now l.fn.seat l.fn.place l.fn.tally l.fn.client) (now l.seat l.place l.tally l.client);
    }
