use Rattle.kmem_cache.proofs.Reapings.{seat_reaped, reaped_one}
use Rattle.kmem_cache.proofs.shared_cache.Cache.reap_one.Goals as goal

pub invariant_of-seat : goal.invariant_of-seat
invariant_of-seat g c =
    let seat = c.seat.inside in let got = c.in-Ok.ensures in
    seat_reaped g.K.Kind.constructed c.self.inside.store.places seat.pass c.free_rounds.new.pass seat.cpu c.in-Ok.full c.free_rounds.new.magazine
    seat.depot c.swap_for_full.new.seat seat.lent seat.returned got.full.0 got.swapped c.free_rounds.ensures.freed seat.spare c.seat.invariant c.free_rounds.ensures.none

pub returns-in-Ok-clause-one : goal.returns-in-Ok-clause-one
returns-in-Ok-clause-one g c _ =
    let seat = c.seat.inside in let got = c.in-Ok.ensures in
    reaped_one g.K.Kind.constructed c.self.inside.store.places seat.pass c.free_rounds.new.pass seat.cpu c.in-Ok.full c.free_rounds.new.magazine
    seat.depot c.swap_for_full.new.seat seat.lent seat.returned got.full.0 got.swapped c.free_rounds.ensures.freed c.args.seat.now c.seat.view_is
