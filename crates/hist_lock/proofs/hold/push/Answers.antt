use Rattle.std.proofs.Common.{◌≡◌, ◌∷◌, ◌++◌, [], vec_capacity, ap, ◌∙◌}
use Rattle.atomic_table.specs.Table.{rest}
use Rattle.hist_lock.specs.declared.rule.Held.{Held}
use Rattle.hist_lock.proofs.Hands.{in_hand, only_hand}
use Rattle.hist_lock.proofs.hold.push.Goals as goal

pub slot_mut-held-requires : goal.slot_mut-held-requires
slot_mut-held-requires g c = (c.requires.of.0, (c.requires.room.0, in_hand c.args.seat.now.me.1 c.requires.room.0 c.requires.room.1))

pub returns-clause-pushed : goal.returns-clause-pushed
returns-clause-pushed g c old at =
    let new : Held g.row.O.Denot g.row.O-Entry.Denot = record { object = c.slot_mut-held.result.now.object; journal = c.push_reserved.new.self } in
    let same : c.slot_mut-held.result.now ≡ old = only_hand c.args.seat.now.me.1 c.slot_mut-held.result.now old c.slot_mut-held.ensures.value at in (
      new,
      ap (λ l. (0, new) ∷ rest l) at,
      ap (λ h. h.object) same,
      c.push_reserved.ensures.items ∙ ap (λ h. h.journal.items ++ (c.args.who, c.args.entry) ∷ []) same,
      c.push_reserved.ensures.capacity ∙ ap (λ h. vec_capacity h.journal) same,
    )
