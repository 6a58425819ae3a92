use Rattle.std.proofs.Common.{length, ap, sym, ◌∙◌}
use Rattle.kmem_cache.specs.Seats.{CacheSeatState}
use Rattle.kmem_cache.specs.Seated.{seat_of}
use Rattle.kmem_cache.proofs.Magazines.{halves}
use Rattle.kmem_cache.proofs.Seating.{acted_here, not_acted, refused_here}
use Rattle.kmem_cache.proofs.shared_cache.Cache.free_ready.Goals as goal

pub returns-in-Err-clause-refused : goal.returns-in-Err-clause-refused
returns-in-Err-clause-refused g c =
    let seat = c.seat.inside in let says = c.in-Err.ensures.refused in (
      says.0,
      sym (ap (λ (s : CacheSeatState). length s.rounds) c.seat.view_is) ∙ (halves seat.cpu says.1 says.2).0,
      refused_here 0 c.self.inside.store c.args.self.now seat.depot c.put_round.new.seat c.args.seat.now (ap (λ s. s.depot) c.self.view_is) (ap (λ s. s.depot) c.seat.view_is) says.4,
      ap (λ cpu. seat_of seat.pass cpu c.put_round.new.seat seat.lent seat.returned) says.3 ∙ ap (λ (s : CacheSeatState). record s { depot = c.put_round.new.seat }) c.seat.view_is,
    )

pub returns-in-Ok-clause-acted : goal.returns-in-Ok-clause-acted
returns-in-Ok-clause-acted g c =
    let seat = c.seat.inside in
    acted_here c.args.self.now c.args.seat.now seat.pass (ap (λ s. s.pass) c.seat.view_is) c.requires.of.0 seat.pass _ (not_acted seat.pass c.seat.invariant.exact c.seat.invariant.legal)

pub returns-in-Err-clause-acted : goal.returns-in-Err-clause-acted
returns-in-Err-clause-acted g c =
    let seat = c.seat.inside in
    acted_here c.args.self.now c.args.seat.now seat.pass (ap (λ s. s.pass) c.seat.view_is) c.requires.of.0 seat.pass _ (not_acted seat.pass c.seat.invariant.exact c.seat.invariant.legal)
