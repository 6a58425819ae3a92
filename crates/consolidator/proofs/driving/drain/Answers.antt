use Rattle.std.proofs.Common.{Bool, true, false, refl, subst, ◌∙◌}
use Rattle.consolidator.specs.Works.{work_by, HasCarried}
use Rattle.consolidator.proofs.Counts.{carried_calmly}
use Rattle.consolidator.proofs.Rounding.{calm_same, calm_chain, room_carried, drained_of}
use Rattle.consolidator.proofs.driving.drain.Goals as goal

pub jobs-init : goal.jobs-init
jobs-init g c =
    let client = g.C.MoveClient in let now = work_by client.flags client.last client.answered client.brought client.fetched in
    let old = now c.args.seat.now c.args.place.now c.args.tally.now c.args.client.now in
    record { of = c.requires.of; home = refl; sign = refl; room = λ scans others room. room; calm = calm_same old }

pub jobs-preserved : goal.jobs-preserved
jobs-preserved g c =
    let client = g.C.MoveClient in let now = work_by client.flags client.last client.answered client.brought client.fetched in
    let old = now c.args.seat.now c.args.place.now c.args.tally.now c.args.client.now in
    let mid = now c.jobs.seat c.jobs.place c.jobs.tally c.jobs.client in
    let new = now c.carry.new.seat c.carry.new.place c.carry.new.tally c.carry.new.client in
    let site = c.args.cache.now in let quotas = c.args.queue.now.terms.quotas in let inv = c.jobs.invariant in
    let carried = subst (λ (b : Bool). HasCarried site mid new b) c.jobs-test.true c.carry.ensures.carried in
    let stays = c.carry.ensures.stays in
    record {
      of = c.carry.ensures.of;
      home = stays.0 ∙ inv.home;
      sign = stays.1 ∙ inv.sign;
      room = λ scans others room. room_carried quotas scans others site mid new true carried c.carry.ensures.few (inv.room scans others room);
      calm = calm_chain old mid new inv.calm (carried_calmly site mid new true carried);
    }

pub returns-clause-drained : goal.returns-clause-drained
returns-clause-drained g c =
    let client = g.C.MoveClient in let now = work_by client.flags client.last client.answered client.brought client.fetched in
    let old = now c.args.seat.now c.args.place.now c.args.tally.now c.args.client.now in
    let mid = now c.jobs.seat c.jobs.place c.jobs.tally c.jobs.client in
    let new = now c.carry.new.seat c.carry.new.place c.carry.new.tally c.carry.new.client in
    let site = c.args.cache.now in let quotas = c.args.queue.now.terms.quotas in let inv = c.jobs.invariant in
    let carried = subst (λ (b : Bool). HasCarried site mid new b) c.jobs-test.false c.carry.ensures.carried in
    drained_of site old mid new inv.calm carried

pub returns-clause-room : goal.returns-clause-room
returns-clause-room g c =
    let client = g.C.MoveClient in let now = work_by client.flags client.last client.answered client.brought client.fetched in
    let old = now c.args.seat.now c.args.place.now c.args.tally.now c.args.client.now in
    let mid = now c.jobs.seat c.jobs.place c.jobs.tally c.jobs.client in
    let new = now c.carry.new.seat c.carry.new.place c.carry.new.tally c.carry.new.client in
    let site = c.args.cache.now in let quotas = c.args.queue.now.terms.quotas in let inv = c.jobs.invariant in
    let carried = subst (λ (b : Bool). HasCarried site mid new b) c.jobs-test.false c.carry.ensures.carried in
    λ scans others room. room_carried quotas scans others site mid new false carried c.carry.ensures.few (inv.room scans others room)
