use Rattle.std.proofs.Common.{◌≡◌, ◌+◌, length, ap, sym, ◌∙◌, subst, arith, None, unwrap_or}
use Rattle.hist_lock.specs.declared.rule.Bounds.{Bounds}
use Rattle.hist_lock.specs.History.{entries_of, listed}
use Rattle.atomic_table.specs.Seated.{TableId}
use Rattle.hist_lock.specs.Passes.{PassState, IsTurn}
use Rattle.hist_lock.specs.Rule.{own}
use Rattle.hist_lock.specs.Seats.{HasRun, bounds_in, pass_state}
use Rattle.hist_lock.proofs.Turns.{asks, noted_none, run_at, run_seen, run_number, run_exact, whole, turned, rests}
use Rattle.hist_lock.proofs.lock.HistLock.look.Goals as goal

pub run-out-requires-clause-can : goal.run-out-requires-clause-can
run-out-requires-clause-can g c =
    let told = g.O.Told in let turn = g.T.Turn in let pass = c.pass.inside in let bounds = bounds_in told.anywhere pass.seat.me.0 in let entered = c.enter.ensures.entered in let held = entered.0 in
    let may = asks told.stands told.home bounds pass.seat.table_id pass.number pass.left pass.seat.me c.enter.new.seat.me held c.pass.invariant entered.1
    (turn.can c.args.turn) c.args.pass.now c.pass.view_is c.requires.can in
    (held, entered.1.holds, (held.journal.items, entered.1.found.stood, may))

pub leave-requires-clause-whole : goal.leave-requires-clause-whole
leave-requires-clause-whole g c =
    let told = g.O.Told in let turn = g.T.Turn in let pass = c.pass.inside in let bounds = bounds_in told.anywhere pass.seat.me.0 in let entered = c.enter.ensures.entered in let held = entered.0 in
    let may = asks told.stands told.home bounds pass.seat.table_id pass.number pass.left pass.seat.me c.enter.new.seat.me held c.pass.invariant entered.1
    (turn.can c.args.turn) c.args.pass.now c.pass.view_is c.requires.can in
    let h = entered.1.holds in let said = c.run-out.ensures.ran held h.2 in let new = said.0 in let can = turn.can c.args.turn pass.number in let tells = turn.tells c.args.turn pass.number in
    let ran : HasRun told.stands told.home can tells pass.number held new c.run-out.result.0 None = subst (HasRun told.stands told.home can tells pass.number held new c.run-out.result.0) c.in-None.is said.2 in
    let noted = noted_none new c.run-out.new.seat.me (run_at told.stands told.home bounds pass.seat.table_id pass.number pass.left pass.seat.me c.enter.new.seat.me held c.pass.invariant entered.1 can tells c.run-out.result.0 None new c.run-out.new.seat.me c.run-out.ensures.view said.1 ran) (run_seen told.stands told.home bounds pass.seat.table_id pass.number pass.left pass.seat.me c.enter.new.seat.me held c.pass.invariant entered.1 can tells c.run-out.result.0 None new c.run-out.new.seat.me c.run-out.ensures.view said.1 ran) (ap (λ n. entries_of n (own c.run-out.new.seat.me.0).seen) (run_number told.stands told.home bounds pass.seat.table_id pass.number pass.left pass.seat.me c.enter.new.seat.me held c.pass.invariant entered.1 can tells c.run-out.result.0 None new c.run-out.new.seat.me c.run-out.ensures.view said.1 ran) ∙ run_exact told.stands told.home bounds pass.seat.table_id pass.number pass.left pass.seat.me c.enter.new.seat.me held c.pass.invariant entered.1 can tells c.run-out.result.0 None new c.run-out.new.seat.me c.run-out.ensures.view said.1 ran) in
    whole told.stands told.home bounds pass.seat.table_id pass.number pass.left pass.seat.me c.enter.new.seat.me held c.pass.invariant entered.1 can tells c.run-out.result.0 None new c.run-out.new.seat.me c.run-out.ensures.view said.1 ran may new c.run-out.new.seat.me noted

pub returns : goal.returns
returns g c =
    let told = g.O.Told in let turn = g.T.Turn in let pass = c.pass.inside in let bounds = bounds_in told.anywhere pass.seat.me.0 in let entered = c.enter.ensures.entered in let held = entered.0 in
    let may = asks told.stands told.home bounds pass.seat.table_id pass.number pass.left pass.seat.me c.enter.new.seat.me held c.pass.invariant entered.1
    (turn.can c.args.turn) c.args.pass.now c.pass.view_is c.requires.can in
    let h = entered.1.holds in let said = c.run-out.ensures.ran held h.2 in let new = said.0 in let can = turn.can c.args.turn pass.number in let tells = turn.tells c.args.turn pass.number in
    let ran : HasRun told.stands told.home can tells pass.number held new c.run-out.result.0 None = subst (HasRun told.stands told.home can tells pass.number held new c.run-out.result.0) c.in-None.is said.2 in
    let noted = noted_none new c.run-out.new.seat.me (run_at told.stands told.home bounds pass.seat.table_id pass.number pass.left pass.seat.me c.enter.new.seat.me held c.pass.invariant entered.1 can tells c.run-out.result.0 None new c.run-out.new.seat.me c.run-out.ensures.view said.1 ran) (run_seen told.stands told.home bounds pass.seat.table_id pass.number pass.left pass.seat.me c.enter.new.seat.me held c.pass.invariant entered.1 can tells c.run-out.result.0 None new c.run-out.new.seat.me c.run-out.ensures.view said.1 ran) (ap (λ n. entries_of n (own c.run-out.new.seat.me.0).seen) (run_number told.stands told.home bounds pass.seat.table_id pass.number pass.left pass.seat.me c.enter.new.seat.me held c.pass.invariant entered.1 can tells c.run-out.result.0 None new c.run-out.new.seat.me c.run-out.ensures.view said.1 ran) ∙ run_exact told.stands told.home bounds pass.seat.table_id pass.number pass.left pass.seat.me c.enter.new.seat.me held c.pass.invariant entered.1 can tells c.run-out.result.0 None new c.run-out.new.seat.me c.run-out.ensures.view said.1 ran) in
    let all_left : pass.left + length (listed {E = g.row.O-Entry.Denot} None) ≡ pass.left = omega arith in
    let seat_left : c.run-out.new.seat.me.0.left ≡ pass.left = ap (λ v. v.left) c.run-out.ensures.view ∙ (entered.1.same.1 ∙ c.pass.invariant.left_is) in
    let done = turned told.stands told.home bounds pass.seat.table_id pass.number pass.left pass.seat.me c.enter.new.seat.me held c.pass.invariant entered.1 can tells c.run-out.result.0 None new c.run-out.new.seat.me c.run-out.ensures.view said.1 ran may new c.run-out.new.seat.me noted pass.left all_left c.leave.new.seat.me c.leave.ensures.left seat_left in
    let resting = rests told.stands told.home bounds pass.seat.table_id pass.number pass.left pass.seat.me c.enter.new.seat.me held c.pass.invariant entered.1 can tells c.run-out.result.0 None new c.run-out.new.seat.me c.run-out.ensures.view said.1 ran may new c.run-out.new.seat.me noted pass.left all_left c.leave.new.seat.me c.leave.ensures.left seat_left in
    let same : bounds_in told.anywhere c.leave.new.seat.me.0 ≡ bounds = ap (λ o. unwrap_or o (record { home = told.anywhere; room = 0; count = 0 })) resting.bounds in
    let table = c.leave.ensures.same.0 ∙ (c.run-out.ensures.same.0 ∙ c.enter.ensures.same.0) in
    let before = pass_state pass.seat.table_id bounds pass.number pass.left (own pass.seat.me.0) in
    let after : TableId × Bounds g.row.O-Home.Denot → PassState g.row.O-Entry.Denot g.row.O-Home.Denot = λ z. pass_state z.0 z.1 pass.number pass.left (own c.leave.new.seat.me.0) in (
      held.journal.items,
      subst (λ p. IsTurn told.stands told.home (turn.tells c.args.turn p.number p.site.home) p (after (c.leave.new.seat.table_id, bounds_in told.anywhere c.leave.new.seat.me.0)) c.run-out.result.0 held.journal.items None) c.pass.view_is
          (subst (λ z. IsTurn told.stands told.home (tells bounds.home) before (after z) c.run-out.result.0 held.journal.items None) (λ i. (sym table i, sym same i)) done),
    )
