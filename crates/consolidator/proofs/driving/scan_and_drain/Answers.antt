use Rattle.consolidator.specs.Works.{work_by}
use Rattle.consolidator.proofs.Rounding.{round_of, room_scanned}
use Rattle.consolidator.proofs.driving.scan_and_drain.Goals as goal

pub drain-requires-clause-room : goal.drain-requires-clause-room
drain-requires-clause-room g c =
    let client = g.C.MoveClient in let now = work_by client.flags client.last client.answered client.brought client.fetched in
    let old = now c.args.seat.now c.args.place.now c.args.tally.now c.args.client.now in
    let mid = now c.scan.new.seat c.scan.new.place c.scan.new.tally c.scan.new.client in
    room_scanned c.args.queue.now.terms.quotas 0 0 c.args.desperate old mid c.scan.ensures.scanned c.requires.room

pub returns-clause-round : goal.returns-clause-round
returns-clause-round g c =
    let client = g.C.MoveClient in let now = work_by client.flags client.last client.answered client.brought client.fetched in
    let old = now c.args.seat.now c.args.place.now c.args.tally.now c.args.client.now in
    let mid = now c.scan.new.seat c.scan.new.place c.scan.new.tally c.scan.new.client in
    let new = now c.drain.new.seat c.drain.new.place c.drain.new.tally c.drain.new.client in
    round_of c.args.desperate old mid new c.scan.ensures.scanned c.drain.ensures.drained

pub returns-clause-room : goal.returns-clause-room
returns-clause-room g c =
    let client = g.C.MoveClient in let now = work_by client.flags client.last client.answered client.brought client.fetched in
    let old = now c.args.seat.now c.args.place.now c.args.tally.now c.args.client.now in
    let mid = now c.scan.new.seat c.scan.new.place c.scan.new.tally c.scan.new.client in
    λ scans others room. c.drain.ensures.room scans others (room_scanned c.args.queue.now.terms.quotas scans others c.args.desperate old mid c.scan.ensures.scanned room)
