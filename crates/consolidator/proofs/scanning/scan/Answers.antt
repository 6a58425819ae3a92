use Rattle.std.proofs.Common.{◌≡◌, Bool, refl, subst, ap, ◌∙◌, arith}
use Rattle.kmem_cache.specs.Seats.{CacheSeatState}
use Rattle.consolidator.specs.Works.{work_by, entries_of_scan}
use Rattle.consolidator.specs.Tries.{HasTried}
use Rattle.consolidator.proofs.Counts.{balance_of, kept_of, given_of}
use Rattle.consolidator.proofs.Trying.{HasTriedAll, tried_start, tried_more, scanned_idle, scanned_full}
use Rattle.consolidator.proofs.scanning.scan.Goals as goal

pub loop-i-init : goal.loop-i-init
loop-i-init g c =
    let client = g.C.MoveClient in let now = work_by client.flags client.last client.answered client.brought client.fetched in
    let old = now c.args.seat.now c.args.place.now c.args.tally.now c.args.client.now in
    record {
      of = (c.start_scan.ensures.of, c.requires.of.1);
      left = omega (arith, c.requires.left.0, c.start_scan.ensures.acted.left);
      place = omega (arith, c.requires.left.1);
      refused = c.requires.left.2;
      brought = c.requires.counts.0;
      fetched = c.requires.counts.1;
      home = refl;
      sign = refl;
      begun = tried_start c.args.desperate old (now c.start_scan.new.seat c.args.place.now c.args.tally.now c.args.client.now) c.start_scan.ensures.acted c.start_scan.ensures.seat refl
          (ap (λ (s : CacheSeatState). (now s c.args.place.now c.args.tally.now c.args.client.now).notes) c.start_scan.ensures.seat);
    }

pub loop-i-preserved : goal.loop-i-preserved
loop-i-preserved g c =
    let client = g.C.MoveClient in let now = work_by client.flags client.last client.answered client.brought client.fetched in
    let old = now c.args.seat.now c.args.place.now c.args.tally.now c.args.client.now in
    let mid = now c.loop-i.seat c.loop-i.place c.loop-i.tally c.loop-i.client in
    let new = now c.begin_one.new.seat c.begin_one.new.place c.begin_one.new.tally c.begin_one.new.client in
    let inv = c.loop-i.invariant in let stays = c.begin_one.ensures.stays in
    let tried = subst (λ (b : Bool). HasTried mid new b) c.if-not-begin_one.false c.begin_one.ensures.begun in
    record {
      of = c.begin_one.ensures.of;
      left = omega (arith, inv.left, tried.5.seat);
      place = omega (arith, inv.place, tried.5.place);
      refused = omega (arith, inv.refused, tried.5.refused);
      brought = omega (arith, inv.brought, tried.5.brought);
      fetched = omega (arith, inv.fetched, tried.5.fetched);
      home = stays.0 ∙ inv.home;
      sign = stays.1 ∙ inv.sign;
      begun = tried_more c.args.desperate c.loop-i._i old mid new inv.begun tried;
    }

pub returns-then-not-begin_one-clause-scanned : goal.returns-then-not-begin_one-clause-scanned
returns-then-not-begin_one-clause-scanned g c =
    let client = g.C.MoveClient in let now = work_by client.flags client.last client.answered client.brought client.fetched in
    let old = now c.args.seat.now c.args.place.now c.args.tally.now c.args.client.now in
    let mid = now c.loop-i.seat c.loop-i.place c.loop-i.tally c.loop-i.client in
    let new = now c.begin_one.new.seat c.begin_one.new.place c.begin_one.new.tally c.begin_one.new.client in
    let tried = subst (λ (b : Bool). HasTried mid new b) c.if-not-begin_one.true c.begin_one.ensures.begun in
    let done = scanned_idle c.args.desperate c.loop-i._i old mid new c.loop-i.invariant.begun c.loop-i-test.true tried in
    done

pub returns-then-not-begin_one-clause-kept : goal.returns-then-not-begin_one-clause-kept
returns-then-not-begin_one-clause-kept g c =
    let client = g.C.MoveClient in let now = work_by client.flags client.last client.answered client.brought client.fetched in
    let old = now c.args.seat.now c.args.place.now c.args.tally.now c.args.client.now in
    let mid = now c.loop-i.seat c.loop-i.place c.loop-i.tally c.loop-i.client in
    let new = now c.begin_one.new.seat c.begin_one.new.place c.begin_one.new.tally c.begin_one.new.client in
    let tried = subst (λ (b : Bool). HasTried mid new b) c.if-not-begin_one.true c.begin_one.ensures.begun in
    let done = scanned_idle c.args.desperate c.loop-i._i old mid new c.loop-i.invariant.begun c.loop-i-test.true tried in
    kept_of old new (entries_of_scan c.args.desperate done.moves done.last) done.worked

pub returns-then-not-begin_one-clause-given : goal.returns-then-not-begin_one-clause-given
returns-then-not-begin_one-clause-given g c =
    let client = g.C.MoveClient in let now = work_by client.flags client.last client.answered client.brought client.fetched in
    let old = now c.args.seat.now c.args.place.now c.args.tally.now c.args.client.now in
    let mid = now c.loop-i.seat c.loop-i.place c.loop-i.tally c.loop-i.client in
    let new = now c.begin_one.new.seat c.begin_one.new.place c.begin_one.new.tally c.begin_one.new.client in
    let tried = subst (λ (b : Bool). HasTried mid new b) c.if-not-begin_one.true c.begin_one.ensures.begun in
    let done = scanned_idle c.args.desperate c.loop-i._i old mid new c.loop-i.invariant.begun c.loop-i-test.true tried in
    given_of old new (entries_of_scan c.args.desperate done.moves done.last) done.worked

pub returns-then-not-begin_one-clause-balance : goal.returns-then-not-begin_one-clause-balance
returns-then-not-begin_one-clause-balance g c =
    let client = g.C.MoveClient in let now = work_by client.flags client.last client.answered client.brought client.fetched in
    let old = now c.args.seat.now c.args.place.now c.args.tally.now c.args.client.now in
    let mid = now c.loop-i.seat c.loop-i.place c.loop-i.tally c.loop-i.client in
    let new = now c.begin_one.new.seat c.begin_one.new.place c.begin_one.new.tally c.begin_one.new.client in
    let tried = subst (λ (b : Bool). HasTried mid new b) c.if-not-begin_one.true c.begin_one.ensures.begun in
    let done = scanned_idle c.args.desperate c.loop-i._i old mid new c.loop-i.invariant.begun c.loop-i-test.true tried in
    balance_of old new (entries_of_scan c.args.desperate done.moves done.last) done.worked

pub returns-clause-scanned : goal.returns-clause-scanned
returns-clause-scanned g c =
    let client = g.C.MoveClient in let now = work_by client.flags client.last client.answered client.brought client.fetched in
    let old = now c.args.seat.now c.args.place.now c.args.tally.now c.args.client.now in
    let new = now c.loop-i.seat c.loop-i.place c.loop-i.tally c.loop-i.client in
    let at : c.loop-i._i ≡ 64 = omega (arith, c.loop-i-test.false, c.loop-i.auto._i-end) in
    let done = scanned_full c.args.desperate old new (subst (λ n. HasTriedAll c.args.desperate n old new) at c.loop-i.invariant.begun) in
    done

pub returns-clause-kept : goal.returns-clause-kept
returns-clause-kept g c =
    let client = g.C.MoveClient in let now = work_by client.flags client.last client.answered client.brought client.fetched in
    let old = now c.args.seat.now c.args.place.now c.args.tally.now c.args.client.now in
    let new = now c.loop-i.seat c.loop-i.place c.loop-i.tally c.loop-i.client in
    let at : c.loop-i._i ≡ 64 = omega (arith, c.loop-i-test.false, c.loop-i.auto._i-end) in
    let done = scanned_full c.args.desperate old new (subst (λ n. HasTriedAll c.args.desperate n old new) at c.loop-i.invariant.begun) in
    kept_of old new (entries_of_scan c.args.desperate done.moves done.last) done.worked

pub returns-clause-given : goal.returns-clause-given
returns-clause-given g c =
    let client = g.C.MoveClient in let now = work_by client.flags client.last client.answered client.brought client.fetched in
    let old = now c.args.seat.now c.args.place.now c.args.tally.now c.args.client.now in
    let new = now c.loop-i.seat c.loop-i.place c.loop-i.tally c.loop-i.client in
    let at : c.loop-i._i ≡ 64 = omega (arith, c.loop-i-test.false, c.loop-i.auto._i-end) in
    let done = scanned_full c.args.desperate old new (subst (λ n. HasTriedAll c.args.desperate n old new) at c.loop-i.invariant.begun) in
    given_of old new (entries_of_scan c.args.desperate done.moves done.last) done.worked

pub returns-clause-balance : goal.returns-clause-balance
returns-clause-balance g c =
    let client = g.C.MoveClient in let now = work_by client.flags client.last client.answered client.brought client.fetched in
    let old = now c.args.seat.now c.args.place.now c.args.tally.now c.args.client.now in
    let new = now c.loop-i.seat c.loop-i.place c.loop-i.tally c.loop-i.client in
    let at : c.loop-i._i ≡ 64 = omega (arith, c.loop-i-test.false, c.loop-i.auto._i-end) in
    let done = scanned_full c.args.desperate old new (subst (λ n. HasTriedAll c.args.desperate n old new) at c.loop-i.invariant.begun) in
    balance_of old new (entries_of_scan c.args.desperate done.moves done.last) done.worked
