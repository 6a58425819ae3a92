use Rattle.std.proofs.Common.{Option, ap, subst, arith}
use Rattle.kmem_model.specs.declared.cache_entry.CacheEntry.{CacheEntry}
use Rattle.kmem_model.specs.CacheCounts.{made_out, made_free, total}
use Rattle.hist_lock.specs.History.{listed}
use Rattle.kmem_cache.specs.Seats.{HasActed}
use Rattle.kmem_cache.proofs.Seating.{acted, acted_here, seat_acted}
use Rattle.kmem_cache.proofs.shared_cache.Cache.free_slab.Goals as goal

pub invariant_of-seat : goal.invariant_of-seat
invariant_of-seat g c =
    let turn = c.act.ensures in let seat = c.seat.inside in let pass = c.act.new.pass in
    seat_acted g.K.Kind.constructed seat.pass pass seat.cpu seat.spare seat.depot seat.lent seat.lent seat.returned c.one_more.result turn.1 c.seat.invariant
    (acted _ seat.pass pass _ turn.0 turn.1 turn.2)
    (omega (arith, ap (λ e. total made_out (listed e)) turn.2.answered, ap (λ e. total made_free (listed e)) turn.2.answered, c.one_more.ensures))

pub returns-clause-acted : goal.returns-clause-acted
returns-clause-acted g c =
    let turn = c.act.ensures in let seat = c.seat.inside in let pass = c.act.new.pass in
    subst (λ (e : Option CacheEntry). HasActed c.args.seat.now.pass pass e) turn.2.answered
    (acted_here c.args.self.now c.args.seat.now seat.pass (ap (λ s. s.pass) c.seat.view_is) c.requires.of.0 pass turn.1 (acted _ seat.pass pass _ turn.0 turn.1 turn.2))
