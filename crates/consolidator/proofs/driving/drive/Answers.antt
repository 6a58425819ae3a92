use Rattle.std.proofs.Common.{◌≡◌, ℕ, ◌+◌, ◌*◌, ◌-◌, suc, refl, sym, subst, arith}
use Rattle.consolidator.specs.Notes.{notes_by}
use Rattle.consolidator.specs.Works.{work_by}
use Rattle.consolidator.specs.Drives.{reap_room, HasRoom, ArePaced, HasDriven, IsWholeDrive}
use Rattle.consolidator.proofs.Working.{notes_are}
use Rattle.consolidator.proofs.Counts.{balance_of, kept_of, given_of}
use Rattle.consolidator.proofs.Rounding.{room_reaped, reaped_counts, reaped_work, whole_drive, paced_more}
use Rattle.consolidator.proofs.driving.drive.Goals as goal

pub returns-then-plan-eq0-clause-whole : goal.returns-then-plan-eq0-clause-whole
returns-then-plan-eq0-clause-whole g c =
    let client = g.C.MoveClient in let now = work_by client.flags client.last client.answered client.brought client.fetched in
    let old = now c.args.seat.now c.args.place.now c.args.tally.now c.args.client.now in
    let new = now c.drain.new.seat c.drain.new.place c.drain.new.tally c.drain.new.client in let all = c.drain.ensures.drained in
    let plan = c.args.plan.now in let places = c.args.cache.now.depot.places in let none : 0 ≡ plan.scans = omega arith in
    subst (λ n. IsWholeDrive plan.desperate n old new) none (whole_drive plan.reaps places plan.desperate 0 old new all all.done)

pub returns-then-plan-eq0-clause-kept : goal.returns-then-plan-eq0-clause-kept
returns-then-plan-eq0-clause-kept g c =
    let client = g.C.MoveClient in let now = work_by client.flags client.last client.answered client.brought client.fetched in
    let old = now c.args.seat.now c.args.place.now c.args.tally.now c.args.client.now in
    let new = now c.drain.new.seat c.drain.new.place c.drain.new.tally c.drain.new.client in let all = c.drain.ensures.drained in
    kept_of old new all.entries all.worked

pub returns-then-plan-eq0-clause-given : goal.returns-then-plan-eq0-clause-given
returns-then-plan-eq0-clause-given g c =
    let client = g.C.MoveClient in let now = work_by client.flags client.last client.answered client.brought client.fetched in
    let old = now c.args.seat.now c.args.place.now c.args.tally.now c.args.client.now in
    let new = now c.drain.new.seat c.drain.new.place c.drain.new.tally c.drain.new.client in let all = c.drain.ensures.drained in
    given_of old new all.entries all.worked

pub returns-then-plan-eq0-clause-balance : goal.returns-then-plan-eq0-clause-balance
returns-then-plan-eq0-clause-balance g c =
    let client = g.C.MoveClient in let now = work_by client.flags client.last client.answered client.brought client.fetched in
    let old = now c.args.seat.now c.args.place.now c.args.tally.now c.args.client.now in
    let new = now c.drain.new.seat c.drain.new.place c.drain.new.tally c.drain.new.client in let all = c.drain.ensures.drained in
    balance_of old new all.entries all.worked

pub reap_if-requires-clause-left : goal.reap_if-requires-clause-left
reap_if-requires-clause-left g c =
    let client = g.C.MoveClient in let now = work_by client.flags client.last client.answered client.brought client.fetched in
    let old = now c.args.seat.now c.args.place.now c.args.tally.now c.args.client.now in
    let before = now c.make_scans.new.seat c.make_scans.new.place c.make_scans.new.tally c.make_scans.new.client in
    let plan = c.args.plan.now in let quotas = c.args.queue.now.terms.quotas in let places = c.args.cache.now.depot.places in
    let many : plan.scans ≡ 1 + (c.args.plan.now.scans - 1) = omega arith in
    let room = c.make_scans.ensures.room 1 (reap_room plan.reaps places) (subst (λ n. HasRoom quotas n (reap_room plan.reaps places) old) many c.requires.room) in
    omega (arith, room.few, room.entries)

pub scan_and_drain-requires-clause-room : goal.scan_and_drain-requires-clause-room
scan_and_drain-requires-clause-room g c =
    let client = g.C.MoveClient in let now = work_by client.flags client.last client.answered client.brought client.fetched in
    let old = now c.args.seat.now c.args.place.now c.args.tally.now c.args.client.now in
    let before = now c.make_scans.new.seat c.make_scans.new.place c.make_scans.new.tally c.make_scans.new.client in
    let plan = c.args.plan.now in let quotas = c.args.queue.now.terms.quotas in let places = c.args.cache.now.depot.places in
    let many : plan.scans ≡ 1 + (c.args.plan.now.scans - 1) = omega arith in
    let room = c.make_scans.ensures.room 1 (reap_room plan.reaps places) (subst (λ n. HasRoom quotas n (reap_room plan.reaps places) old) many c.requires.room) in
    let after = now c.reap_if.new.seat c.make_scans.new.place c.make_scans.new.tally c.come_up_to.new.client in let same = c.come_up_to.ensures.same in
    let counts = reaped_counts plan.reaps places before.seat after.seat c.reap_if.ensures.reaped in
    let reaped = reaped_work plan.reaps places before after c.reap_if.ensures.reaped refl
    (notes_are after.notes before.notes counts.lent counts.returned refl same.0 same.1 same.2 same.3 same.4) in
    room_reaped quotas 1 plan.reaps places before after reaped room

pub returns-clause-driven : goal.returns-clause-driven
returns-clause-driven g c =
    let client = g.C.MoveClient in let now = work_by client.flags client.last client.answered client.brought client.fetched in
    let old = now c.args.seat.now c.args.place.now c.args.tally.now c.args.client.now in
    let before = now c.make_scans.new.seat c.make_scans.new.place c.make_scans.new.tally c.make_scans.new.client in
    let plan = c.args.plan.now in let quotas = c.args.queue.now.terms.quotas in let places = c.args.cache.now.depot.places in
    let many : plan.scans ≡ 1 + (c.args.plan.now.scans - 1) = omega arith in
    let room = c.make_scans.ensures.room 1 (reap_room plan.reaps places) (subst (λ n. HasRoom quotas n (reap_room plan.reaps places) old) many c.requires.room) in
    let after = now c.reap_if.new.seat c.make_scans.new.place c.make_scans.new.tally c.come_up_to.new.client in let same = c.come_up_to.ensures.same in
    let counts = reaped_counts plan.reaps places before.seat after.seat c.reap_if.ensures.reaped in
    let reaped = reaped_work plan.reaps places before after c.reap_if.ensures.reaped refl
    (notes_are after.notes before.notes counts.lent counts.returned refl same.0 same.1 same.2 same.3 same.4) in
    let new = now c.scan_and_drain.new.seat c.scan_and_drain.new.place c.scan_and_drain.new.tally c.scan_and_drain.new.client in
    let driven : HasDriven plan.reaps places plan.desperate (suc (c.args.plan.now.scans - 1)) old new = (before, after, c.make_scans.ensures.rounds, reaped, c.scan_and_drain.ensures.round) in
    let many : suc (c.args.plan.now.scans - 1) ≡ plan.scans = omega arith in
    subst (λ n. HasDriven plan.reaps places plan.desperate n old new) many driven

pub returns-clause-whole : goal.returns-clause-whole
returns-clause-whole g c =
    let client = g.C.MoveClient in let now = work_by client.flags client.last client.answered client.brought client.fetched in
    let old = now c.args.seat.now c.args.place.now c.args.tally.now c.args.client.now in
    let before = now c.make_scans.new.seat c.make_scans.new.place c.make_scans.new.tally c.make_scans.new.client in
    let plan = c.args.plan.now in let quotas = c.args.queue.now.terms.quotas in let places = c.args.cache.now.depot.places in
    let many : plan.scans ≡ 1 + (c.args.plan.now.scans - 1) = omega arith in
    let room = c.make_scans.ensures.room 1 (reap_room plan.reaps places) (subst (λ n. HasRoom quotas n (reap_room plan.reaps places) old) many c.requires.room) in
    let after = now c.reap_if.new.seat c.make_scans.new.place c.make_scans.new.tally c.come_up_to.new.client in let same = c.come_up_to.ensures.same in
    let counts = reaped_counts plan.reaps places before.seat after.seat c.reap_if.ensures.reaped in
    let reaped = reaped_work plan.reaps places before after c.reap_if.ensures.reaped refl
    (notes_are after.notes before.notes counts.lent counts.returned refl same.0 same.1 same.2 same.3 same.4) in
    let new = now c.scan_and_drain.new.seat c.scan_and_drain.new.place c.scan_and_drain.new.tally c.scan_and_drain.new.client in
    let driven : HasDriven plan.reaps places plan.desperate (suc (c.args.plan.now.scans - 1)) old new = (before, after, c.make_scans.ensures.rounds, reaped, c.scan_and_drain.ensures.round) in
    let many : suc (c.args.plan.now.scans - 1) ≡ plan.scans = omega arith in
    let whole = whole_drive plan.reaps places plan.desperate (suc (c.args.plan.now.scans - 1)) old new driven c.scan_and_drain.ensures.done in
    subst (λ n. IsWholeDrive plan.desperate n old new) many whole

pub returns-clause-kept : goal.returns-clause-kept
returns-clause-kept g c =
    let client = g.C.MoveClient in let now = work_by client.flags client.last client.answered client.brought client.fetched in
    let old = now c.args.seat.now c.args.place.now c.args.tally.now c.args.client.now in
    let before = now c.make_scans.new.seat c.make_scans.new.place c.make_scans.new.tally c.make_scans.new.client in
    let plan = c.args.plan.now in let quotas = c.args.queue.now.terms.quotas in let places = c.args.cache.now.depot.places in
    let many : plan.scans ≡ 1 + (c.args.plan.now.scans - 1) = omega arith in
    let room = c.make_scans.ensures.room 1 (reap_room plan.reaps places) (subst (λ n. HasRoom quotas n (reap_room plan.reaps places) old) many c.requires.room) in
    let after = now c.reap_if.new.seat c.make_scans.new.place c.make_scans.new.tally c.come_up_to.new.client in let same = c.come_up_to.ensures.same in
    let counts = reaped_counts plan.reaps places before.seat after.seat c.reap_if.ensures.reaped in
    let reaped = reaped_work plan.reaps places before after c.reap_if.ensures.reaped refl
    (notes_are after.notes before.notes counts.lent counts.returned refl same.0 same.1 same.2 same.3 same.4) in
    let new = now c.scan_and_drain.new.seat c.scan_and_drain.new.place c.scan_and_drain.new.tally c.scan_and_drain.new.client in
    let driven : HasDriven plan.reaps places plan.desperate (suc (c.args.plan.now.scans - 1)) old new = (before, after, c.make_scans.ensures.rounds, reaped, c.scan_and_drain.ensures.round) in
    let many : suc (c.args.plan.now.scans - 1) ≡ plan.scans = omega arith in
    let whole = whole_drive plan.reaps places plan.desperate (suc (c.args.plan.now.scans - 1)) old new driven c.scan_and_drain.ensures.done in
    kept_of old new whole.entries whole.worked

pub returns-clause-given : goal.returns-clause-given
returns-clause-given g c =
    let client = g.C.MoveClient in let now = work_by client.flags client.last client.answered client.brought client.fetched in
    let old = now c.args.seat.now c.args.place.now c.args.tally.now c.args.client.now in
    let before = now c.make_scans.new.seat c.make_scans.new.place c.make_scans.new.tally c.make_scans.new.client in
    let plan = c.args.plan.now in let quotas = c.args.queue.now.terms.quotas in let places = c.args.cache.now.depot.places in
    let many : plan.scans ≡ 1 + (c.args.plan.now.scans - 1) = omega arith in
    let room = c.make_scans.ensures.room 1 (reap_room plan.reaps places) (subst (λ n. HasRoom quotas n (reap_room plan.reaps places) old) many c.requires.room) in
    let after = now c.reap_if.new.seat c.make_scans.new.place c.make_scans.new.tally c.come_up_to.new.client in let same = c.come_up_to.ensures.same in
    let counts = reaped_counts plan.reaps places before.seat after.seat c.reap_if.ensures.reaped in
    let reaped = reaped_work plan.reaps places before after c.reap_if.ensures.reaped refl
    (notes_are after.notes before.notes counts.lent counts.returned refl same.0 same.1 same.2 same.3 same.4) in
    let new = now c.scan_and_drain.new.seat c.scan_and_drain.new.place c.scan_and_drain.new.tally c.scan_and_drain.new.client in
    let driven : HasDriven plan.reaps places plan.desperate (suc (c.args.plan.now.scans - 1)) old new = (before, after, c.make_scans.ensures.rounds, reaped, c.scan_and_drain.ensures.round) in
    let many : suc (c.args.plan.now.scans - 1) ≡ plan.scans = omega arith in
    let whole = whole_drive plan.reaps places plan.desperate (suc (c.args.plan.now.scans - 1)) old new driven c.scan_and_drain.ensures.done in
    given_of old new whole.entries whole.worked

pub returns-clause-balance : goal.returns-clause-balance
returns-clause-balance g c =
    let client = g.C.MoveClient in let now = work_by client.flags client.last client.answered client.brought client.fetched in
    let old = now c.args.seat.now c.args.place.now c.args.tally.now c.args.client.now in
    let before = now c.make_scans.new.seat c.make_scans.new.place c.make_scans.new.tally c.make_scans.new.client in
    let plan = c.args.plan.now in let quotas = c.args.queue.now.terms.quotas in let places = c.args.cache.now.depot.places in
    let many : plan.scans ≡ 1 + (c.args.plan.now.scans - 1) = omega arith in
    let room = c.make_scans.ensures.room 1 (reap_room plan.reaps places) (subst (λ n. HasRoom quotas n (reap_room plan.reaps places) old) many c.requires.room) in
    let after = now c.reap_if.new.seat c.make_scans.new.place c.make_scans.new.tally c.come_up_to.new.client in let same = c.come_up_to.ensures.same in
    let counts = reaped_counts plan.reaps places before.seat after.seat c.reap_if.ensures.reaped in
    let reaped = reaped_work plan.reaps places before after c.reap_if.ensures.reaped refl
    (notes_are after.notes before.notes counts.lent counts.returned refl same.0 same.1 same.2 same.3 same.4) in
    let new = now c.scan_and_drain.new.seat c.scan_and_drain.new.place c.scan_and_drain.new.tally c.scan_and_drain.new.client in
    let driven : HasDriven plan.reaps places plan.desperate (suc (c.args.plan.now.scans - 1)) old new = (before, after, c.make_scans.ensures.rounds, reaped, c.scan_and_drain.ensures.round) in
    let many : suc (c.args.plan.now.scans - 1) ≡ plan.scans = omega arith in
    let whole = whole_drive plan.reaps places plan.desperate (suc (c.args.plan.now.scans - 1)) old new driven c.scan_and_drain.ensures.done in
    balance_of old new whole.entries whole.worked

pub returns-then-plan-eq0-clause-few : goal.returns-then-plan-eq0-clause-few
returns-then-plan-eq0-clause-few g c =
    let plan = c.args.plan.now in (c.drain.ensures.room plan.scans (reap_room plan.reaps c.args.cache.now.depot.places) c.requires.room).few

pub returns-clause-few : goal.returns-clause-few
returns-clause-few g c =
    let client = g.C.MoveClient in let now = work_by client.flags client.last client.answered client.brought client.fetched in
    let old = now c.args.seat.now c.args.place.now c.args.tally.now c.args.client.now in
    let before = now c.make_scans.new.seat c.make_scans.new.place c.make_scans.new.tally c.make_scans.new.client in
    let plan = c.args.plan.now in let quotas = c.args.queue.now.terms.quotas in let places = c.args.cache.now.depot.places in
    let many : plan.scans ≡ 1 + (c.args.plan.now.scans - 1) = omega arith in
    let room = c.make_scans.ensures.room 1 (reap_room plan.reaps places) (subst (λ n. HasRoom quotas n (reap_room plan.reaps places) old) many c.requires.room) in
    let after = now c.reap_if.new.seat c.make_scans.new.place c.make_scans.new.tally c.come_up_to.new.client in let same = c.come_up_to.ensures.same in
    let counts = reaped_counts plan.reaps places before.seat after.seat c.reap_if.ensures.reaped in
    let reaped = reaped_work plan.reaps places before after c.reap_if.ensures.reaped refl
    (notes_are after.notes before.notes counts.lent counts.returned refl same.0 same.1 same.2 same.3 same.4) in
    (c.scan_and_drain.ensures.room 0 0 (room_reaped quotas 1 plan.reaps places before after reaped room)).few

pub returns-then-plan-eq0-clause-paced : goal.returns-then-plan-eq0-clause-paced
returns-then-plan-eq0-clause-paced g c = λ i lt. absurd (let none : c.args.plan.now.scans ≡ 0 = omega arith in omega arith)

pub returns-clause-paced : goal.returns-clause-paced
returns-clause-paced g c =
    let client = g.C.MoveClient in let pace = g.P.Pace in let plan = c.args.plan.now in
    let now = work_by client.flags client.last client.answered client.brought client.fetched in
    let notes = notes_by client.flags client.last client.answered client.brought client.fetched in
    let old = now c.args.seat.now c.args.place.now c.args.tally.now c.args.client.now in
    let before = now c.make_scans.new.seat c.make_scans.new.place c.make_scans.new.tally c.make_scans.new.client in
    let waited = notes c.make_scans.new.seat c.make_scans.new.tally c.come_up_to.new.client in
    let same = c.come_up_to.ensures.same in
    let share = λ (i : ℕ). pace.share c.args.pace.now (plan.first + 2 * i) in
    let many : plan.scans - 1 + 1 ≡ plan.scans = omega arith in
    subst (λ n. ArePaced notes pace.seen share plan.desperate n old) many
    (paced_more notes pace.seen share plan.desperate (plan.scans - 1) old c.make_scans.ensures.paced before c.come_up_to.new.client
    c.make_scans.new.tally c.make_scans.ensures.rounds
    (notes_are before.notes waited refl refl refl (sym same.0) (sym same.1) (sym same.2) (sym same.3) (sym same.4)) c.come_up_to.ensures.seen)
