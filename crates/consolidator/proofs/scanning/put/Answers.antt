use Rattle.std.proofs.Common.{refl}
use Rattle.consolidator.specs.Works.{work_by}
use Rattle.consolidator.proofs.Trying.{put_pushed, put_back}
use Rattle.consolidator.proofs.scanning.put.Goals as goal

pub returns-in-Ok-clause-tried : goal.returns-in-Ok-clause-tried
returns-in-Ok-clause-tried g c =
    let client = g.C.MoveClient in let now = work_by client.flags client.last client.answered client.brought client.fetched in
    let old = now c.args.seat.now c.args.place.now c.args.tally.now c.args.client.now in
    let new = now c.args.seat.now c.push_job.new.seat c.args.tally.now c.args.client.now in
    put_pushed old new c.args.job c.requires.left.1 c.in-Ok.ensures.pushed refl refl

pub returns-in-Err-clause-tried : goal.returns-in-Err-clause-tried
returns-in-Err-clause-tried g c =
    let client = g.C.MoveClient in let now = work_by client.flags client.last client.answered client.brought client.fetched in
    let old = now c.args.seat.now c.args.place.now c.args.tally.now c.args.client.now in
    let new = now c.finish.new.seat c.push_job.new.seat c.finish.new.tally c.finish.new.client in
    put_back c.args.cache.now old new c.args.job c.in-Err.back c.in-Err.ensures.back c.in-Err.ensures.refused c.finish.ensures.finished
