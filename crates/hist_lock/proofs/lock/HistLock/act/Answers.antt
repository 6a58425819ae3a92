use Rattle.std.proofs.Common.{◌≡◌, ◌≤◌, length, ap, sym, ◌∙◌, subst, arith, unwrap_or}
use Rattle.hist_lock.specs.declared.rule.Bounds.{Bounds}
use Rattle.hist_lock.specs.History.{listed}
use Rattle.atomic_table.specs.Seated.{TableId}
use Rattle.hist_lock.specs.Passes.{PassState, IsTurn}
use Rattle.hist_lock.specs.Rule.{own}
use Rattle.hist_lock.specs.Seats.{bounds_in, pass_state}
use Rattle.hist_lock.proofs.Turns.{asks, listed_few, run_at, run_seen, run_room, whole, turned, rests}
use Rattle.hist_lock.proofs.lock.HistLock.act.Goals as goal

pub run-out-requires-clause-can : goal.run-out-requires-clause-can
run-out-requires-clause-can g c =
    let told = g.O.Told in let turn = g.T.Turn in let pass = c.pass.inside in let bounds = bounds_in told.anywhere pass.seat.me.0 in let entered = c.enter.ensures.entered in let held = entered.0 in
    let may = asks told.stands told.home bounds pass.seat.table_id pass.number pass.left pass.seat.me c.enter.new.seat.me held c.pass.invariant entered.1
    (turn.can c.args.turn) c.args.pass.now c.pass.view_is c.requires.can in
    (held, entered.1.holds, (held.journal.items, entered.1.found.stood, may))

pub note-pass-inside-requires-clause-holds : goal.note-pass-inside-requires-clause-holds
note-pass-inside-requires-clause-holds g c =
    let told = g.O.Told in let turn = g.T.Turn in let pass = c.pass.inside in let bounds = bounds_in told.anywhere pass.seat.me.0 in let entered = c.enter.ensures.entered in let held = entered.0 in
    let may = asks told.stands told.home bounds pass.seat.table_id pass.number pass.left pass.seat.me c.enter.new.seat.me held c.pass.invariant entered.1
    (turn.can c.args.turn) c.args.pass.now c.pass.view_is c.requires.can in
    let h = entered.1.holds in let ran = c.run-out.ensures.ran held h.2 in let new = ran.0 in let can = turn.can c.args.turn pass.number in let tells = turn.tells c.args.turn pass.number in
    let entry = c.run-out.result.1 in let left = c.requires.left in
    let fits : length (listed entry) ≤ pass.left = omega (arith, listed_few entry, ap (λ p. p.left) c.pass.view_is) in (
      new,
      run_at told.stands told.home bounds pass.seat.table_id pass.number pass.left pass.seat.me c.enter.new.seat.me held c.pass.invariant entered.1 can tells c.run-out.result.0 entry new c.run-out.new.seat.me c.run-out.ensures.view ran.1 ran.2,
      run_seen told.stands told.home bounds pass.seat.table_id pass.number pass.left pass.seat.me c.enter.new.seat.me held c.pass.invariant entered.1 can tells c.run-out.result.0 entry new c.run-out.new.seat.me c.run-out.ensures.view ran.1 ran.2,
      run_room told.stands told.home bounds pass.seat.table_id pass.number pass.left pass.seat.me c.enter.new.seat.me held c.pass.invariant entered.1 can tells c.run-out.result.0 entry new c.run-out.new.seat.me c.run-out.ensures.view ran.1 ran.2 fits,
    )

pub leave-requires-clause-whole : goal.leave-requires-clause-whole
leave-requires-clause-whole g c =
    let told = g.O.Told in let turn = g.T.Turn in let pass = c.pass.inside in let bounds = bounds_in told.anywhere pass.seat.me.0 in let entered = c.enter.ensures.entered in let held = entered.0 in
    let may = asks told.stands told.home bounds pass.seat.table_id pass.number pass.left pass.seat.me c.enter.new.seat.me held c.pass.invariant entered.1
    (turn.can c.args.turn) c.args.pass.now c.pass.view_is c.requires.can in
    let h = entered.1.holds in let ran = c.run-out.ensures.ran held h.2 in let new = ran.0 in let can = turn.can c.args.turn pass.number in let tells = turn.tells c.args.turn pass.number in
    let entry = c.run-out.result.1 in let noted = c.note-pass-inside.ensures.noted new ran.1 in
    whole told.stands told.home bounds pass.seat.table_id pass.number pass.left pass.seat.me c.enter.new.seat.me held c.pass.invariant entered.1 can tells c.run-out.result.0 entry new c.run-out.new.seat.me c.run-out.ensures.view ran.1 ran.2 may noted.0 c.note-pass-inside.new.seat.me noted.1

pub returns : goal.returns
returns g c =
    let told = g.O.Told in let turn = g.T.Turn in let pass = c.pass.inside in let bounds = bounds_in told.anywhere pass.seat.me.0 in let entered = c.enter.ensures.entered in let held = entered.0 in
    let may = asks told.stands told.home bounds pass.seat.table_id pass.number pass.left pass.seat.me c.enter.new.seat.me held c.pass.invariant entered.1
    (turn.can c.args.turn) c.args.pass.now c.pass.view_is c.requires.can in
    let h = entered.1.holds in let ran = c.run-out.ensures.ran held h.2 in let new = ran.0 in let can = turn.can c.args.turn pass.number in let tells = turn.tells c.args.turn pass.number in
    let entry = c.run-out.result.1 in let noted = c.note-pass-inside.ensures.noted new ran.1 in let left = c.note-pass-inside.ensures.left in
    let done = turned told.stands told.home bounds pass.seat.table_id pass.number pass.left pass.seat.me c.enter.new.seat.me held c.pass.invariant entered.1 can tells c.run-out.result.0 entry new c.run-out.new.seat.me c.run-out.ensures.view ran.1 ran.2 may noted.0 c.note-pass-inside.new.seat.me noted.1 c.note-pass-inside.result left.0 c.leave.new.seat.me c.leave.ensures.left left.1 in
    let resting = rests told.stands told.home bounds pass.seat.table_id pass.number pass.left pass.seat.me c.enter.new.seat.me held c.pass.invariant entered.1 can tells c.run-out.result.0 entry new c.run-out.new.seat.me c.run-out.ensures.view ran.1 ran.2 may noted.0 c.note-pass-inside.new.seat.me noted.1 c.note-pass-inside.result left.0 c.leave.new.seat.me c.leave.ensures.left left.1 in
    let same : bounds_in told.anywhere c.leave.new.seat.me.0 ≡ bounds = ap (λ o. unwrap_or o (record { home = told.anywhere; room = 0; count = 0 })) resting.bounds in
    let table = c.leave.ensures.same.0 ∙ (c.note-pass-inside.ensures.same.0 ∙ (c.run-out.ensures.same.0 ∙ c.enter.ensures.same.0)) in
    let before = pass_state pass.seat.table_id bounds pass.number pass.left (own pass.seat.me.0) in
    let after : TableId × Bounds g.row.O-Home.Denot → PassState g.row.O-Entry.Denot g.row.O-Home.Denot = λ z. pass_state z.0 z.1 pass.number c.note-pass-inside.result (own c.leave.new.seat.me.0) in (
      held.journal.items,
      entry,
      subst (λ p. IsTurn told.stands told.home (turn.tells c.args.turn p.number p.site.home) p (after (c.leave.new.seat.table_id, bounds_in told.anywhere c.leave.new.seat.me.0)) c.run-out.result.0 held.journal.items entry) c.pass.view_is
          (subst (λ z. IsTurn told.stands told.home (tells bounds.home) before (after z) c.run-out.result.0 held.journal.items entry) (λ i. (sym table i, sym same i)) done),
    )
