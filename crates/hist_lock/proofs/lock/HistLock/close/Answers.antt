use Rattle.std.proofs.Common.{◌≤◌, ℕ, length, map, ap, sym, ◌∙◌, subst}
use Rattle.std.specs.List.{sum_by, range_with_len}
use Rattle.std.specs.Slots.{slots_items}
use Rattle.table_sums.proofs.Spreads.{numbering}
use Rattle.hist_lock.specs.Rule.{bounds_of}
use Rattle.hist_lock.proofs.Ending.{ends}
use Rattle.hist_lock.proofs.lock.HistLock.close.Goals as goal

pub returns-clause-stands : goal.returns-clause-stands
returns-clause-stands g c =
    let told = g.O.Told in let key = c.self.inside.table.shared.key in let seat = c.gather_all-seat.result in let closed = c.close_with-closed in
    let end = ends (bounds_of told.home key) told.stands told.home seat.id seat.me c.args.passes.items (slots_items closed.result.words) (slots_items closed.result.slots) c.take-object.result
    closed.ensures.values.2 c.gather_all-seat.ensures.gathered (c.requires.count ∙ sym (ap (λ s. s.count) c.self.view_is)) c.take-object.ensures.value in
    end.stood

pub returns-clause-home : goal.returns-clause-home
returns-clause-home g c =
    let told = g.O.Told in let key = c.self.inside.table.shared.key in let seat = c.gather_all-seat.result in let closed = c.close_with-closed in
    let end = ends (bounds_of told.home key) told.stands told.home seat.id seat.me c.args.passes.items (slots_items closed.result.words) (slots_items closed.result.slots) c.take-object.result
    closed.ensures.values.2 c.gather_all-seat.ensures.gathered (c.requires.count ∙ sym (ap (λ s. s.count) c.self.view_is)) c.take-object.ensures.value in
    end.home_is ∙ ap (λ s. s.home) c.self.view_is

pub returns-clause-fronts : goal.returns-clause-fronts
returns-clause-fronts g c =
    let told = g.O.Told in let key = c.self.inside.table.shared.key in let seat = c.gather_all-seat.result in let closed = c.close_with-closed in
    let end = ends (bounds_of told.home key) told.stands told.home seat.id seat.me c.args.passes.items (slots_items closed.result.words) (slots_items closed.result.slots) c.take-object.result
    closed.ensures.values.2 c.gather_all-seat.ensures.gathered (c.requires.count ∙ sym (ap (λ s. s.count) c.self.view_is)) c.take-object.ensures.value in
    end.fronts

pub returns-clause-exact : goal.returns-clause-exact
returns-clause-exact g c =
    let told = g.O.Told in let key = c.self.inside.table.shared.key in let seat = c.gather_all-seat.result in let closed = c.close_with-closed in
    let end = ends (bounds_of told.home key) told.stands told.home seat.id seat.me c.args.passes.items (slots_items closed.result.words) (slots_items closed.result.slots) c.take-object.result
    closed.ensures.values.2 c.gather_all-seat.ensures.gathered (c.requires.count ∙ sym (ap (λ s. s.count) c.self.view_is)) c.take-object.ensures.value in
    end.exact

pub returns-clause-others : goal.returns-clause-others
returns-clause-others g c =
    let told = g.O.Told in let key = c.self.inside.table.shared.key in let seat = c.gather_all-seat.result in let closed = c.close_with-closed in
    let end = ends (bounds_of told.home key) told.stands told.home seat.id seat.me c.args.passes.items (slots_items closed.result.words) (slots_items closed.result.slots) c.take-object.result
    closed.ensures.values.2 c.gather_all-seat.ensures.gathered (c.requires.count ∙ sym (ap (λ s. s.count) c.self.view_is)) c.take-object.ensures.value in
    end.others

pub returns-clause-numbers : goal.returns-clause-numbers
returns-clause-numbers g c =
    let told = g.O.Told in let key = c.self.inside.table.shared.key in let seat = c.gather_all-seat.result in let closed = c.close_with-closed in
    let end = ends (bounds_of told.home key) told.stands told.home seat.id seat.me c.args.passes.items (slots_items closed.result.words) (slots_items closed.result.slots) c.take-object.result
    closed.ensures.values.2 c.gather_all-seat.ensures.gathered (c.requires.count ∙ sym (ap (λ s. s.count) c.self.view_is)) c.take-object.ensures.value in
    numbering (map (λ p. p.number) c.args.passes.items) c.args.self.count (λ weight. end.weighs weight ∙ ap (λ s. sum_by weight (range_with_len 0 s.count)) c.self.view_is)

pub returns-clause-weighs : goal.returns-clause-weighs
returns-clause-weighs g c =
    let told = g.O.Told in let key = c.self.inside.table.shared.key in let seat = c.gather_all-seat.result in let closed = c.close_with-closed in
    let end = ends (bounds_of told.home key) told.stands told.home seat.id seat.me c.args.passes.items (slots_items closed.result.words) (slots_items closed.result.slots) c.take-object.result
    closed.ensures.values.2 c.gather_all-seat.ensures.gathered (c.requires.count ∙ sym (ap (λ s. s.count) c.self.view_is)) c.take-object.ensures.value in
    λ weight. end.weighs weight ∙ ap (λ s. sum_by weight (range_with_len 0 s.count)) c.self.view_is

pub returns-clause-room : goal.returns-clause-room
returns-clause-room g c =
    let told = g.O.Told in let key = c.self.inside.table.shared.key in let seat = c.gather_all-seat.result in let closed = c.close_with-closed in
    let end = ends (bounds_of told.home key) told.stands told.home seat.id seat.me c.args.passes.items (slots_items closed.result.words) (slots_items closed.result.slots) c.take-object.result
    closed.ensures.values.2 c.gather_all-seat.ensures.gathered (c.requires.count ∙ sym (ap (λ s. s.count) c.self.view_is)) c.take-object.ensures.value in
    subst (λ (n : ℕ). length c.take-object.result.journal.items ≤ n) (ap (λ s. s.room) c.self.view_is) end.room_kept
