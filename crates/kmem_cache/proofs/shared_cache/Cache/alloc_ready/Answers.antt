use Rattle.std.proofs.Common.{sym, ap, ◌∙◌}
use Rattle.kmem_cache.proofs.Seating.{acted_here, not_acted, seat_taken}
use Rattle.kmem_cache.proofs.shared_cache.Cache.alloc_ready.Goals as goal

pub invariant_of-seat : goal.invariant_of-seat
invariant_of-seat g c =
    let seat = c.seat.inside in let took = c.take_round.ensures in
    let at = c.self.invariant.home ∙ (ap (λ s. s.lock.home.buffers) c.self.view_is ∙ (sym (ap (λ s. s.home.buffers) c.requires.of.0) ∙ sym (ap (λ s. s.pass.site.home.buffers) c.seat.view_is))) in
    seat_taken g.K.Kind.constructed c.self.inside.store.places c.in-Some.buf.number seat.pass seat.cpu c.take_round.new.cpu seat.spare c.take_round.new.spare
    seat.depot c.take_round.new.seat seat.lent c.one_more.result seat.returned c.self.inside.store.home c.seat.invariant
    at took.kept took.ready took.spare c.in-Some.ensures.taken.1 c.one_more.ensures

pub returns-in-Some-clause-acted : goal.returns-in-Some-clause-acted
returns-in-Some-clause-acted g c =
    let seat = c.seat.inside in
    acted_here c.args.self.now c.args.seat.now seat.pass (ap (λ s. s.pass) c.seat.view_is) c.requires.of.0 seat.pass _ (not_acted seat.pass c.seat.invariant.exact c.seat.invariant.legal)

pub returns-in-None-clause-acted : goal.returns-in-None-clause-acted
returns-in-None-clause-acted g c =
    let seat = c.seat.inside in
    acted_here c.args.self.now c.args.seat.now seat.pass (ap (λ s. s.pass) c.seat.view_is) c.requires.of.0 seat.pass _ (not_acted seat.pass c.seat.invariant.exact c.seat.invariant.legal)
