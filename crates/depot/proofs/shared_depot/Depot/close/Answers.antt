use Rattle.std.proofs.Common.{All, ap, sym, ◌∙◌, subst}
use Rattle.std.specs.Slots.{slots_items}
use Rattle.magazine.specs.Ready.{AreReady}
use Rattle.depot.specs.Depot.{IsFullOrEmpty}
use Rattle.depot.proofs.Ending.{ends, stands_of, rounds_in}
use Rattle.depot.proofs.shared_depot.Depot.close.Goals as goal

pub returns-clause-ready : goal.returns-clause-ready
returns-clause-ready g c =
    let constructed = g.K.Kind.constructed in let key = c.self.inside.table.shared.key in let seat = c.gather_all-seat.result in let gathered = c.gather_all-seat.ensures.gathered in let closed = c.close_with in
    let end = ends constructed key.home key.seats seat.id seat.me.0 (slots_items closed.result.words) (slots_items closed.result.slots) closed.ensures.values.2 gathered.turning
    (gathered.many ∙ (c.requires.count ∙ sym (ap (λ d. d.seats) c.self.view_is))) in
    subst (All (AreReady constructed c.args.self.home)) (sym c.drain.ensures) (subst (λ h. All (AreReady constructed h) (slots_items closed.result.slots)) (ap (λ d. d.home) c.self.view_is) end.ready)

pub returns-clause-whole : goal.returns-clause-whole
returns-clause-whole g c =
    let constructed = g.K.Kind.constructed in let key = c.self.inside.table.shared.key in let seat = c.gather_all-seat.result in let gathered = c.gather_all-seat.ensures.gathered in let closed = c.close_with in
    let end = ends constructed key.home key.seats seat.id seat.me.0 (slots_items closed.result.words) (slots_items closed.result.slots) closed.ensures.values.2 gathered.turning
    (gathered.many ∙ (c.requires.count ∙ sym (ap (λ d. d.seats) c.self.view_is))) in
    subst (All IsFullOrEmpty) (sym c.drain.ensures) end.even

pub returns-clause-rounds : goal.returns-clause-rounds
returns-clause-rounds g c =
    let constructed = g.K.Kind.constructed in let key = c.self.inside.table.shared.key in let seat = c.gather_all-seat.result in let gathered = c.gather_all-seat.ensures.gathered in let closed = c.close_with in
    let end = ends constructed key.home key.seats seat.id seat.me.0 (slots_items closed.result.words) (slots_items closed.result.slots) closed.ensures.values.2 gathered.turning
    (gathered.many ∙ (c.requires.count ∙ sym (ap (λ d. d.seats) c.self.view_is))) in
    rw c.drain.ensures (rounds_in c.args.seats.items seat.me (slots_items closed.result.slots) gathered end.even end.count)

pub returns-clause-stands : goal.returns-clause-stands
returns-clause-stands g c =
    let constructed = g.K.Kind.constructed in let key = c.self.inside.table.shared.key in let seat = c.gather_all-seat.result in let gathered = c.gather_all-seat.ensures.gathered in let closed = c.close_with in
    let end = ends constructed key.home key.seats seat.id seat.me.0 (slots_items closed.result.words) (slots_items closed.result.slots) closed.ensures.values.2 gathered.turning
    (gathered.many ∙ (c.requires.count ∙ sym (ap (λ d. d.seats) c.self.view_is))) in
    rw c.drain.ensures (stands_of c.args.seats.items seat.me (slots_items closed.result.slots) gathered end.count)
