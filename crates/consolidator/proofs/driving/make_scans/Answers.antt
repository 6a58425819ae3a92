use Rattle.std.proofs.Common.{◌≡◌, ℕ, ◌+◌, ◌*◌, ◌-◌, refl, sym, subst, ◌∙◌, arith}
use Rattle.consolidator.specs.Notes.{notes_by}
use Rattle.consolidator.specs.Works.{work_by}
use Rattle.consolidator.specs.Drives.{HasRoom, HasRounds}
use Rattle.consolidator.proofs.Rounding.{no_rounds, more_rounds, room_less, paced_more}
use Rattle.consolidator.proofs.Working.{notes_are, work_waited}
use Rattle.consolidator.proofs.driving.make_scans.Goals as goal

pub loop-i-init : goal.loop-i-init
loop-i-init g c =
    let client = g.C.MoveClient in let now = work_by client.flags client.last client.answered client.brought client.fetched in
    let old = now c.args.seat.now c.args.place.now c.args.tally.now c.args.client.now in let quotas = c.args.queue.now.terms.quotas in
    record {
      of = c.requires.of;
      home = refl;
      sign = refl;
      room = λ scans others room. subst (λ n. HasRoom quotas n others old) (let at : scans + 0 ≡ scans = omega arith in at) room;
      rounds = no_rounds c.args.plan.now.desperate old;
      paced = λ i lt. absurd (omega arith);
    }

pub scan_and_drain-requires-clause-room : goal.scan_and_drain-requires-clause-room
scan_and_drain-requires-clause-room g c =
    let client = g.C.MoveClient in let now = work_by client.flags client.last client.answered client.brought client.fetched in
    let old = now c.args.seat.now c.args.place.now c.args.tally.now c.args.client.now in let quotas = c.args.queue.now.terms.quotas in
    let mid = now c.loop-i.seat c.loop-i.place c.loop-i.tally c.loop-i.client in let i = c.loop-i.i in
    let others = c.args.count - i - 1 in
    let at : c.args.count ≡ (1 + others) + i = omega arith in
    let same = c.come_up_to.ensures.same in
    let waited = work_waited client.flags client.last client.answered client.brought client.fetched c.loop-i.seat c.loop-i.place c.loop-i.tally c.loop-i.client c.come_up_to.new.client same.0 same.1 same.2 same.3 same.4 in
    subst (HasRoom quotas 1 0) (sym waited) (room_less quotas 1 others 0 mid (c.loop-i.invariant.room (1 + others) 0 (subst (λ n. HasRoom quotas n 0 old) at c.requires.room)))

pub loop-i-preserved : goal.loop-i-preserved
loop-i-preserved g c =
    let client = g.C.MoveClient in let now = work_by client.flags client.last client.answered client.brought client.fetched in
    let old = now c.args.seat.now c.args.place.now c.args.tally.now c.args.client.now in let quotas = c.args.queue.now.terms.quotas in
    let mid = now c.loop-i.seat c.loop-i.place c.loop-i.tally c.loop-i.client in let i = c.loop-i.i in
    let new = now c.scan_and_drain.new.seat c.scan_and_drain.new.place c.scan_and_drain.new.tally c.scan_and_drain.new.client in
    let inv = c.loop-i.invariant in let did = c.scan_and_drain.ensures in
    let came = c.come_up_to.ensures in let same = came.same in let desperate = c.args.plan.now.desperate in
    let notes = notes_by client.flags client.last client.answered client.brought client.fetched in
    let share = λ (i : ℕ). g.P.Pace.share c.args.pace.now (c.args.plan.now.first + 2 * i) in
    let late = now c.loop-i.seat c.loop-i.place c.loop-i.tally c.come_up_to.new.client in
    let waited : late ≡ mid = work_waited client.flags client.last client.answered client.brought client.fetched c.loop-i.seat c.loop-i.place c.loop-i.tally c.loop-i.client c.come_up_to.new.client same.0 same.1 same.2 same.3 same.4 in
    record {
      of = did.of;
      home = did.stays.0 ∙ (came.stays.0 ∙ inv.home);
      sign = did.stays.1 ∙ (came.stays.1 ∙ inv.sign);
      room = λ scans others room.
          did.room scans others (subst (HasRoom quotas (scans + 1) others) (sym waited)
          (inv.room (scans + 1) others (subst (λ n. HasRoom quotas n others old) (let at : scans + (i + 1) ≡ (scans + 1) + i = omega arith in at) room)));
      rounds = more_rounds desperate i 1 old late new (subst (HasRounds desperate i old) (sym waited) inv.rounds) did.round;
      paced =
          paced_more notes g.P.Pace.seen share desperate i old inv.paced mid c.come_up_to.new.client c.loop-i.tally inv.rounds
          (notes_are mid.notes late.notes refl refl refl (sym same.0) (sym same.1) (sym same.2) (sym same.3) (sym same.4)) came.seen;
    }

pub returns-clause-room : goal.returns-clause-room
returns-clause-room g c =
    let client = g.C.MoveClient in let now = work_by client.flags client.last client.answered client.brought client.fetched in
    let old = now c.args.seat.now c.args.place.now c.args.tally.now c.args.client.now in let quotas = c.args.queue.now.terms.quotas in
    let at : c.args.count ≡ c.loop-i.i = omega arith in
    λ scans others room. c.loop-i.invariant.room scans others (subst (λ n. HasRoom quotas (scans + n) others old) at room)
