use Rattle.std.proofs.Common.{◌≡◌, ℕ, ◌+◌, ◌≤◌, true, Option, Some, None, is_some, unwrap_or, cond, refl, sym, ap, ◌∙◌, subst, subst₂, arith, add-zero}
use Rattle.std.proofs.lemmas.List.{append-nil}
use Rattle.kmem_text.specs.declared.command.Command.TheVariants.{Put}
use Rattle.kmem_text.specs.declared.command.Reply.{Reply}
use Rattle.kmem_buf.specs.Buffers.{BufState}
use Rattle.kmem_model.specs.Heap.{Object}
use Rattle.kmem_cache.specs.Seats.{CacheSeatState}
use Rattle.record_table.specs.Shares.{ShareState}
use Rattle.record_table.specs.Sessions.{SessionState, session_of, FoundAbsent, no_share}
use Rattle.record_table.specs.Runs.{HasCarriedOut}
use Rattle.record_table.proofs.Runs.{IsKnown, known_next, known_done, used_on, freed_is, front_same, acted_front, balanced_put, asked_is}
use Rattle.record_table.proofs.session.Session.put.Given.{Over}
use Rattle.record_table.proofs.session.Session.put.Goals as goal
use Rattle.record_table.proofs.session.Session.put.Goals.{in-Some-back, in-None}

known : (g : Over) (c : goal.Joined-back g) → IsKnown (session_of c.self.inside.pass c.self.inside.made c.self.inside.holds.items c.self.inside.share) (session_of c.put_over-reply.new.pass (c.self.inside.made + 1) c.self.inside.holds.items (Some c.put_over-reply.result.2)) c.in-Some.share (c.self.inside.made + 1) (Put c.args.name c.args.value) c.put_over-reply.result.0
known g c =
    let brought = c.put_over-reply.ensures.brought in
    record {
      share_is = ap (λ (x : Option ShareState). unwrap_or x no_share) (sym (sym c.replace.ensures.value ∙ c.in-Some.is));
      added = brought.added;
      made = refl;
      holds = refl;
      leaves = refl;
      place = brought.share_at.0;
      home = brought.share_at.1;
    }

pub invariant_of-self : goal.invariant_of-self
invariant_of-self g c = known_next (session_of c.self.inside.pass c.self.inside.made c.self.inside.holds.items c.self.inside.share) (session_of c.put_over-reply.new.pass (c.self.inside.made + 1) c.self.inside.holds.items (Some c.put_over-reply.result.2)) c.in-Some.share _ true (c.self.inside.made + 1) (Put c.args.name c.args.value) c.put_over-reply.result.0 c.self.invariant refl (known g c)

-- the end of both arms
to_join : (g : Over) (c : goal.Joined-back g) (seat : CacheSeatState) (reply : Reply) → c.match-back.seat ≡ seat → c.match-back.result ≡ reply →
    HasCarriedOut c.args.cache.now (Put c.args.name c.args.value) reply (session_of c.self.inside.pass c.self.inside.made c.self.inside.holds.items c.self.inside.share) (session_of c.put_over-reply.new.pass (c.self.inside.made + 1) c.self.inside.holds.items (Some c.put_over-reply.result.2)) c.args.seat.now seat → HasCarriedOut c.args.cache.now (Put c.args.name c.args.value) c.match-back.result (session_of c.self.inside.pass c.self.inside.made c.self.inside.holds.items c.self.inside.share) (session_of c.put_over-reply.new.pass (c.self.inside.made + 1) c.self.inside.holds.items (Some c.put_over-reply.result.2)) c.args.seat.now c.match-back.seat
to_join g c seat reply seat_is reply_is it =
    subst₂ (λ (r : Reply) (s : CacheSeatState). HasCarriedOut c.args.cache.now (Put c.args.name c.args.value) r (session_of c.self.inside.pass c.self.inside.made c.self.inside.holds.items c.self.inside.share) (session_of c.put_over-reply.new.pass (c.self.inside.made + 1) c.self.inside.holds.items (Some c.put_over-reply.result.2)) c.args.seat.now s) (sym reply_is) (sym seat_is) it

pub returns : goal.returns
returns g c = record {
  done =
      subst (λ (s : SessionState). HasCarriedOut c.args.cache.now (Put c.args.name c.args.value) c.match-back.result s (session_of c.put_over-reply.new.pass (c.self.inside.made + 1) c.self.inside.holds.items (Some c.put_over-reply.result.2)) c.args.seat.now c.match-back.seat) c.self.view_is
      (let over = c.put_over-reply in
      let it = over.ensures.brought in
      let absent = FoundAbsent c.self.inside.pass over.new.pass (Put c.args.name c.args.value) in
      let home = ap (λ (s : SessionState). s.pass.site.home) c.self.view_is in
      elim c.match-back.branch [
        | in-Some-back w ↦
            (let acted = w.free.ensures.acted in
            let one = ap {B = ℕ} (λ (x : Option (BufState Object)). cond (is_some x) 1 0) w.in-Some-back.is in
            to_join g c w.free.new.seat over.result.0 w.seat-is w.result-is
            (known_done c.args.cache.now (session_of c.self.inside.pass c.self.inside.made c.self.inside.holds.items c.self.inside.share) (session_of c.put_over-reply.new.pass (c.self.inside.made + 1) c.self.inside.holds.items (Some c.put_over-reply.result.2)) c.in-Some.share _ (c.self.inside.made + 1) (Put c.args.name c.args.value) over.result.0 c.args.seat.now w.free.new.seat c.self.invariant (known g c) refl
            (λ full. absurd (not_some (sym w.in-Some-back.is ∙ (it.full full).1)))
            (used_on c.args.seat.now.pass over.new.seat.pass w.free.new.seat.pass (Put c.args.name c.args.value) absent it.asked acted.0 it.front it.mine it.left it.site it.number
            (acted_front over.new.seat.pass w.free.new.seat.pass acted.0 acted.1) acted.1.mine acted.1.left acted.1.site acted.1.number
            (asked_is (Put c.args.name c.args.value) absent it.asked refl it.asks) (freed_is c.args.cache.now over.new.seat w.free.new.seat w.in-Some-back.buf.number acted.0 true refl acted.2))
            (balanced_put c.in-Some.share over.result.2 c.args.seat.now w.free.new.seat 1 (omega arith)
            it.brought it.fetched (subst (λ n. (c.args.seat.now.lent ≤ n) × (n ≤ c.args.seat.now.lent + 1)) (sym w.free.ensures.same) it.lent)
            (omega (arith, w.free.ensures.returned, it.returned)) (omega (arith, it.balance, w.free.ensures.same, one)))
            w.free.ensures.of))
        | in-None w ↦
            (let none = ap {B = ℕ} (λ (x : Option (BufState Object)). cond (is_some x) 1 0) w.in-None.is in
            to_join g c over.new.seat over.result.0 w.seat-is w.result-is
            (known_done c.args.cache.now (session_of c.self.inside.pass c.self.inside.made c.self.inside.holds.items c.self.inside.share) (session_of c.put_over-reply.new.pass (c.self.inside.made + 1) c.self.inside.holds.items (Some c.put_over-reply.result.2)) c.in-Some.share _ (c.self.inside.made + 1) (Put c.args.name c.args.value) over.result.0 c.args.seat.now over.new.seat c.self.invariant (known g c) refl
            (λ full. (it.full full).0)
            (used_on c.args.seat.now.pass over.new.seat.pass over.new.seat.pass (Put c.args.name c.args.value) absent it.asked None it.front it.mine it.left it.site it.number
            (front_same over.new.seat.pass.seen) (sym (append-nil over.new.seat.pass.mine)) (add-zero over.new.seat.pass.left) refl refl
            (asked_is (Put c.args.name c.args.value) absent it.asked refl it.asks) tt)
            (balanced_put c.in-Some.share over.result.2 c.args.seat.now over.new.seat 0 (omega arith) it.brought it.fetched it.lent
            (omega (arith, it.returned)) (omega (arith, it.balance, none)))
            over.ensures.of))
      ]);
}
  where
    not_some : {buf : BufState Object} → Some buf ≡ None → ⊥
    not_some e = cc
