use Rattle.std.proofs.Common.{◌≡◌, ◌∷◌, [], ap, sym, ◌∙◌, subst, arith, Some, length, ◌+◌, ◌<◌, ◌≤◌, ◌^◌, vec_capacity}
use Rattle.hist_lock.specs.declared.rule.Stage.TheVariants.{Called}
use Rattle.hist_lock.specs.declared.rule.Bounds.{Bounds}
use Rattle.hist_lock.specs.History.{IsFront, entries_of}
use Rattle.hist_lock.specs.Rule.{own}
use Rattle.hist_lock.specs.Steps.{at_stage, drew, took}
use Rattle.hist_lock.proofs.hold.enter.Goals as goal

pub returns-clause-entered : goal.returns-clause-entered
returns-clause-entered g c =
    let v = c.args.seat.now.me.0 in
    let drawn = c.draw-ticket.ensures.drawn in let called = c.wait_for.ensures.called in let taken = c.take.ensures.taken in
    let held = taken.0 in let found = taken.2 in
    let before = called ∙ ap (λ m. (at_stage Called m.0, [])) (drawn.2 ∙ ap (λ m. (drew drawn.0 m.0, [])) c.pass_door.ensures.me) in
    let after = taken.1 ∙ ap (λ m. (took held.journal.items m.0, (0, held) ∷ [])) before in
    let view = ap (λ m. m.0) before in
    let front : IsFront (own v).seen held.journal.items = subst (λ w. IsFront (own w).seen held.journal.items) view found.front in
    let exact : entries_of (own v).number held.journal.items ≡ (own v).mine = subst (λ w. entries_of (own w).number held.journal.items ≡ (own w).mine) view found.exact in
    let within : (b : Bounds g.row.O-Home.Denot) → v.bounds ≡ Some b → (g.O.Told.home held.object ≡ b.home) × (length held.journal.items + v.left ≤ b.room) × (b.room < 2 ^ 32) × (b.room ≤ vec_capacity held.journal) =
    λ b e. let w = found.within b (ap (λ u. u.bounds) view ∙ e) in (w.0, omega (arith, ap (λ u. u.left) view), w.2, w.3) in (
      held,
      record {
        holds = (ap (λ m. m.0.stage) after, ap (λ m. m.0.claims) after ∙ ap (λ m. own m.0 ∷ []) (sym after), ap (λ m. m.1) after);
        same = (ap (λ m. m.0.bounds) after, ap (λ m. m.0.left) after);
        claim = ap (λ m. own m.0) after;
        found = record { stood = found.stood; front = front; exact = exact; within = within };
      },
    )
