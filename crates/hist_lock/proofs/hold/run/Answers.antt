use Rattle.std.proofs.Common.{◌≡◌, ◌∷◌, refl, ap, subst}
use Rattle.atomic_table.specs.Table.{rest}
use Rattle.hist_lock.specs.Seats.{HasRun}
use Rattle.hist_lock.specs.declared.rule.Held.{Held}
use Rattle.hist_lock.proofs.Hands.{in_hand, only_hand}
use Rattle.hist_lock.proofs.hold.run.Goals as goal

pub slot_mut-held-requires : goal.slot_mut-held-requires
slot_mut-held-requires g c = (c.requires.of.0, (c.requires.can.0, in_hand c.args.seat.now.me.1 c.requires.can.0 c.requires.can.1.2))

pub returns-clause-ran : goal.returns-clause-ran
returns-clause-ran g c old at =
    let new : Held g.row.O.Denot g.row.O-Entry.Denot = record { object = c.run.new.object; journal = c.slot_mut-held.result.now.journal } in
    let same : c.slot_mut-held.result.now ≡ old = only_hand c.args.seat.now.me.1 c.slot_mut-held.result.now old c.slot_mut-held.ensures.value at in (
      new,
      ap (λ l. (0, new) ∷ rest l) at,
      subst (λ h. HasRun g.O.Told.stands g.O.Told.home (g.T.Turn.can c.args.turn c.args.who) (g.T.Turn.tells c.args.turn c.args.who) c.args.who h new c.run.result.0 c.run.result.1) same
          record { journal = refl; home = c.run.ensures.home; ran = c.run.ensures.told },
    )
