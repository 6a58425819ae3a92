use Rattle.std.proofs.Common.{◌≡◌, ◌+◌, true, Option, Some, None, unwrap_or, refl, sym, ap, ◌∙◌, subst, subst₂, add-zero}
use Rattle.kmem_text.specs.declared.command.Command.TheVariants.{Del}
use Rattle.kmem_text.specs.declared.command.Reply.{Reply}
use Rattle.kmem_cache.specs.Seats.{CacheSeatState, IsCacheSeat}
use Rattle.record_table.specs.Shares.{ShareState}
use Rattle.record_table.specs.Sessions.{SessionState, session_of, FoundAbsent, no_share}
use Rattle.record_table.specs.Turns.{fetched_by_del}
use Rattle.record_table.specs.Runs.{HasUsed, HasCarriedOut}
use Rattle.record_table.proofs.Runs.{IsKnown, known_next, known_done, no_full, used_none, used_on, freed_is, front_same, acted_front, balanced_del}
use Rattle.std.proofs.lemmas.List.{append-nil}
use Rattle.record_table.proofs.session.Session.del.Given.{Over}
use Rattle.record_table.proofs.session.Session.del.Goals as goal
use Rattle.record_table.proofs.session.Session.del.Goals.{in-Some-out, in-None}

known : (g : Over) (c : goal.Joined-out g) → IsKnown (session_of c.self.inside.pass c.self.inside.made c.self.inside.holds.items c.self.inside.share) (session_of c.run_del-reply.new.pass (c.self.inside.made + 1) c.self.inside.holds.items (Some c.run_del-reply.result.2)) c.in-Some.share (c.self.inside.made + 1) (Del c.args.name) c.run_del-reply.result.0
known g c =
    record {
      share_is = ap (λ (x : Option ShareState). unwrap_or x no_share) (sym (sym c.replace.ensures.value ∙ c.in-Some.is));
      added = c.run_del-reply.ensures.added;
      made = refl;
      holds = refl;
      leaves = refl;
      place = ap (λ (s : ShareState). s.place) c.run_del-reply.ensures.share;
      home = ap (λ (s : ShareState). s.home) c.run_del-reply.ensures.share;
    }

pub invariant_of-self : goal.invariant_of-self
invariant_of-self g c = known_next (session_of c.self.inside.pass c.self.inside.made c.self.inside.holds.items c.self.inside.share) (session_of c.run_del-reply.new.pass (c.self.inside.made + 1) c.self.inside.holds.items (Some c.run_del-reply.result.2)) c.in-Some.share _ true (c.self.inside.made + 1) (Del c.args.name) c.run_del-reply.result.0 c.self.invariant refl (known g c)

-- what a free did, or nothing, and the counts
done : (g : Over) (c : goal.Joined-out g) (seat : CacheSeatState) → IsCacheSeat c.args.cache.now seat → HasUsed c.args.seat.now.pass seat.pass (Del c.args.name) (FoundAbsent c.self.inside.pass c.run_del-reply.new.pass (Del c.args.name)) →
    seat.lent ≡ c.args.seat.now.lent → seat.returned ≡ c.args.seat.now.returned + fetched_by_del c.run_del-reply.result.1 →
    HasCarriedOut c.args.cache.now (Del c.args.name) c.run_del-reply.result.0 (session_of c.self.inside.pass c.self.inside.made c.self.inside.holds.items c.self.inside.share) (session_of c.run_del-reply.new.pass (c.self.inside.made + 1) c.self.inside.holds.items (Some c.run_del-reply.result.2)) c.args.seat.now seat
done g c seat of used lent returned =
    let share = c.run_del-reply.ensures.share in
    let brought : c.run_del-reply.result.2.brought ≡ c.in-Some.share.brought = ap (λ (s : ShareState). s.brought) share ∙ add-zero c.in-Some.share.brought in
    let fetched : c.run_del-reply.result.2.fetched ≡ c.in-Some.share.fetched + fetched_by_del c.run_del-reply.result.1 = ap (λ (s : ShareState). s.fetched) share in
    known_done c.args.cache.now (session_of c.self.inside.pass c.self.inside.made c.self.inside.holds.items c.self.inside.share) (session_of c.run_del-reply.new.pass (c.self.inside.made + 1) c.self.inside.holds.items (Some c.run_del-reply.result.2)) c.in-Some.share _ (c.self.inside.made + 1) (Del c.args.name) c.run_del-reply.result.0 c.args.seat.now seat c.self.invariant (known g c) refl
    (λ full. absurd (no_full c.self.inside.pass c.run_del-reply.new.pass (c.self.inside.made + 1) (Del c.args.name) c.run_del-reply.result.0 c.run_del-reply.ensures.added refl full))
    used (balanced_del c.in-Some.share c.run_del-reply.result.2 c.args.seat.now seat c.run_del-reply.result.1 brought fetched lent returned) of

-- the end of both arms
to_join : (g : Over) (c : goal.Joined-out g) (seat : CacheSeatState) (reply : Reply) → c.match-out.seat ≡ seat → c.match-out.result ≡ reply →
    HasCarriedOut c.args.cache.now (Del c.args.name) reply (session_of c.self.inside.pass c.self.inside.made c.self.inside.holds.items c.self.inside.share) (session_of c.run_del-reply.new.pass (c.self.inside.made + 1) c.self.inside.holds.items (Some c.run_del-reply.result.2)) c.args.seat.now seat → HasCarriedOut c.args.cache.now (Del c.args.name) c.match-out.result (session_of c.self.inside.pass c.self.inside.made c.self.inside.holds.items c.self.inside.share) (session_of c.run_del-reply.new.pass (c.self.inside.made + 1) c.self.inside.holds.items (Some c.run_del-reply.result.2)) c.args.seat.now c.match-out.seat
to_join g c seat reply seat_is reply_is it =
    subst₂ (λ (r : Reply) (s : CacheSeatState). HasCarriedOut c.args.cache.now (Del c.args.name) r (session_of c.self.inside.pass c.self.inside.made c.self.inside.holds.items c.self.inside.share) (session_of c.run_del-reply.new.pass (c.self.inside.made + 1) c.self.inside.holds.items (Some c.run_del-reply.result.2)) c.args.seat.now s) (sym reply_is) (sym seat_is) it

pub returns : goal.returns
returns g c = record {
  done =
      subst (λ (s : SessionState). HasCarriedOut c.args.cache.now (Del c.args.name) c.match-out.result s (session_of c.run_del-reply.new.pass (c.self.inside.made + 1) c.self.inside.holds.items (Some c.run_del-reply.result.2)) c.args.seat.now c.match-out.seat) c.self.view_is
      (elim c.match-out.branch [
        | in-Some-out w ↦
            (let one : fetched_by_del c.run_del-reply.result.1 ≡ 1 = ap fetched_by_del w.in-Some-out.is in
            let acted = w.free.ensures.acted in
            to_join g c w.free.new.seat c.run_del-reply.result.0 w.seat-is w.result-is
            (done g c w.free.new.seat w.free.ensures.of
            (used_on c.args.seat.now.pass c.args.seat.now.pass w.free.new.seat.pass (Del c.args.name) (FoundAbsent c.self.inside.pass c.run_del-reply.new.pass (Del c.args.name)) None acted.0
            (front_same c.args.seat.now.pass.seen) (sym (append-nil c.args.seat.now.pass.mine)) (add-zero c.args.seat.now.pass.left) refl refl
            (acted_front c.args.seat.now.pass w.free.new.seat.pass acted.0 acted.1) acted.1.mine acted.1.left acted.1.site acted.1.number tt
            (freed_is c.args.cache.now c.args.seat.now w.free.new.seat w.in-Some-out.buf.number acted.0 true refl acted.2))
            w.free.ensures.same (w.free.ensures.returned ∙ ap (λ n. c.args.seat.now.returned + n) (sym one))))
        | in-None w ↦
            (let none : fetched_by_del c.run_del-reply.result.1 ≡ 0 = ap fetched_by_del w.in-None.is in
            to_join g c c.args.seat.now c.run_del-reply.result.0 w.seat-is w.result-is
            (done g c c.args.seat.now c.requires.can.seat_of (used_none c.args.seat.now.pass (Del c.args.name) (FoundAbsent c.self.inside.pass c.run_del-reply.new.pass (Del c.args.name))) refl
            (sym (ap (λ n. c.args.seat.now.returned + n) none ∙ add-zero c.args.seat.now.returned))))
      ]);
}
