use Rattle.std.proofs.Common.{◌≡◌, ◌∷◌, ◌++◌, [], ap, sym, ◌∙◌, subst, length, arith}
use Rattle.hist_lock.specs.History.{entries_of, listed, told}
use Rattle.hist_lock.specs.Steps.{raised, journal_of}
use Rattle.hist_lock.specs.Rule.{own}
use Rattle.hist_lock.specs.Seats.{HasNoted}
use Rattle.hist_lock.proofs.Hands.{in_hand, only_hand}
use Rattle.hist_lock.proofs.Turns.{noted_none}
use Rattle.hist_lock.proofs.hold.note.Goals as goal

pub push-requires-clause-room : goal.push-requires-clause-room
push-requires-clause-room g c =
    let holds = c.requires.holds in
    let one : length (listed c.args.entry) ≡ 1 = ap (λ e. length (listed e)) c.in-Some.is in
    let room = holds.3 in
    (holds.0, holds.1.2, omega arith)

pub raise-requires-clause-holds : goal.raise-requires-clause-holds
raise-requires-clause-holds g c =
    let holds = c.requires.holds in let view = c.push.ensures.view in
    let pushed = c.push.ensures.pushed holds.0 holds.1.2 in
    let entry = c.in-Some.entry in (
      pushed.0,
      entry,
      (ap (λ v. v.stage) view ∙ holds.1.0, (ap (λ v. v.claims) view ∙ (holds.1.1 ∙ ap (λ v. own v ∷ []) (sym view))), pushed.1),
      pushed.3 ∙ (ap (λ l. l ++ (c.args.who, entry) ∷ []) holds.2 ∙ (λ i. (own (sym view i)).seen ++ ((sym c.requires.who ∙ ap (λ v. (own v).number) (sym view)) i, entry) ∷ [])),
    )

pub returns-in-Some-clause-noted : goal.returns-in-Some-clause-noted
returns-in-Some-clause-noted g c old at =
    let holds = c.requires.holds in let view = c.push.ensures.view in
    let pushed = c.push.ensures.pushed old at in let raised_is = c.raise.ensures.raised in
    let new = pushed.0 in let entry = c.in-Some.entry in
    let journal : journal_of c.push.new.seat.me.1 ≡ new.journal.items = ap journal_of pushed.1 in
    let after = raised_is ∙ (λ i. (raised (journal i) (view i), pushed.1 i)) in (
      new,
      record {
        holds = (ap (λ m. m.0.stage) after ∙ holds.1.0, ap (λ m. m.0.claims) after ∙ ap (λ m. own m.0 ∷ []) (sym after), ap (λ m. m.1) after);
        object = pushed.2;
        journal = pushed.3 ∙ ((λ i. old.journal.items ++ (sym c.requires.who i, entry) ∷ []) ∙ ap (told old.journal.items (own c.args.seat.now.me.0).number) (sym c.in-Some.is));
        room = pushed.4;
        bounds = ap (λ m. m.0.bounds) after;
        claim = ap (λ m. own m.0) after;
      },
    )

pub returns-in-None-clause-noted : goal.returns-in-None-clause-noted
returns-in-None-clause-noted g c old at =
    let holds = c.requires.holds in let v = c.args.seat.now.me.0 in
    let same : holds.0 ≡ old = only_hand c.args.seat.now.me.1 holds.0 old (in_hand c.args.seat.now.me.1 holds.0 holds.1.2) at in
    let seen : old.journal.items ≡ (own v).seen = ap (λ h. h.journal.items) (sym same) ∙ holds.2 in
    let exact : entries_of (own v).number (own v).seen ≡ (own v).mine = ap (λ n. entries_of n (own v).seen) c.requires.who ∙ c.requires.exact in (
      old,
      subst (λ e. HasNoted e old old v c.args.seat.now.me) (sym c.in-None.is) (noted_none old c.args.seat.now.me (holds.1.0, holds.1.1, at) seen exact),
    )
