use Rattle.std.proofs.Common.{true}
use Rattle.consolidator.specs.Works.{work_by}
use Rattle.consolidator.proofs.Counts.{carried_calmly, balance_of, kept_of, given_of}
use Rattle.consolidator.proofs.carrying.carry.Goals as goal
use Rattle.consolidator.proofs.carrying.carry.Goals.{After-finish}

pub returns-in-Some-clause-kept : goal.returns-in-Some-clause-kept
returns-in-Some-clause-kept g c =
    let client = g.C.MoveClient in let now = work_by client.flags client.last client.answered client.brought client.fetched in
    let old = now c.args.seat.now c.args.place.now c.args.tally.now c.args.client.now in
    let new = now c.finish.new.seat c.pop_job.new.seat c.finish.new.tally c.finish.new.client in
    let done = carried_calmly c.args.cache.now old new true (c.in-Some.job, c.in-Some.ensures.popped, c.finish.ensures.finished) in
    kept_of old new done.entries done.worked

pub returns-in-Some-clause-given : goal.returns-in-Some-clause-given
returns-in-Some-clause-given g c =
    let client = g.C.MoveClient in let now = work_by client.flags client.last client.answered client.brought client.fetched in
    let old = now c.args.seat.now c.args.place.now c.args.tally.now c.args.client.now in
    let new = now c.finish.new.seat c.pop_job.new.seat c.finish.new.tally c.finish.new.client in
    let done = carried_calmly c.args.cache.now old new true (c.in-Some.job, c.in-Some.ensures.popped, c.finish.ensures.finished) in
    given_of old new done.entries done.worked

pub returns-in-Some-clause-balance : goal.returns-in-Some-clause-balance
returns-in-Some-clause-balance g c =
    let client = g.C.MoveClient in let now = work_by client.flags client.last client.answered client.brought client.fetched in
    let old = now c.args.seat.now c.args.place.now c.args.tally.now c.args.client.now in
    let new = now c.finish.new.seat c.pop_job.new.seat c.finish.new.tally c.finish.new.client in
    let done = carried_calmly c.args.cache.now old new true (c.in-Some.job, c.in-Some.ensures.popped, c.finish.ensures.finished) in
    balance_of old new done.entries done.worked
