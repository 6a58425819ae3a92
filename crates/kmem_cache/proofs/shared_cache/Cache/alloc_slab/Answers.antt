use Rattle.std.proofs.Common.{length, ap, subst, arith, Err, Ok}
use Rattle.kmem_buf.specs.Homes.{Homes}
use Rattle.kmem_cache.specs.Turns.{IsAllocated}
use Rattle.kmem_cache.proofs.Seating.{acted, acted_here, home_here, seen_long, seat_acted, alloc_counts}
use Rattle.kmem_cache.proofs.shared_cache.Cache.alloc_slab.Goals as goal

pub invariant_of-seat : goal.invariant_of-seat
invariant_of-seat g c =
    let turn = c.in-Ok.ensures in let seat = c.seat.inside in let pass = c.act.new.pass in let kind = g.K.Kind in
    let counts = alloc_counts kind.constructed kind.never_refuses seat.pass.site.home.buffers (length turn.0) (Ok c.in-Ok.buf) turn.1 turn.2.answered in
    seat_acted kind.constructed seat.pass pass seat.cpu seat.spare seat.depot seat.lent c.one_more.result seat.returned seat.returned turn.1 c.seat.invariant
    (acted _ seat.pass pass _ turn.0 turn.1 turn.2) (omega (arith, counts.made_is, counts.freed_is, c.one_more.ensures))

pub returns-in-Ok-clause-acted : goal.returns-in-Ok-clause-acted
returns-in-Ok-clause-acted g c =
    let turn = c.in-Ok.ensures in let seat = c.seat.inside in let pass = c.act.new.pass in let kind = g.K.Kind in let is = ap (λ s. s.pass) c.seat.view_is in (
      turn.1,
      length turn.0,
      acted_here c.args.self.now c.args.seat.now seat.pass is c.requires.of.0 pass turn.1 (acted _ seat.pass pass _ turn.0 turn.1 turn.2),
      seen_long _ seat.pass pass _ turn.0 turn.1 turn.2,
      subst (λ (home : Homes). IsAllocated kind.constructed kind.never_refuses home (length turn.0) (Ok c.in-Ok.buf) turn.1) (home_here c.args.self.now c.args.seat.now seat.pass is c.requires.of.0) turn.2.answered,
    )

pub invariant_of-seat-in-Err : goal.invariant_of-seat-in-Err
invariant_of-seat-in-Err g c =
    let turn = c.in-Err.ensures in let seat = c.seat.inside in let pass = c.act.new.pass in let kind = g.K.Kind in
    let counts = alloc_counts kind.constructed kind.never_refuses seat.pass.site.home.buffers (length turn.0) (Err c.in-Err.refused) turn.1 turn.2.answered in
    seat_acted kind.constructed seat.pass pass seat.cpu seat.spare seat.depot seat.lent seat.lent seat.returned seat.returned turn.1 c.seat.invariant
    (acted _ seat.pass pass _ turn.0 turn.1 turn.2) (omega (arith, counts.made_is, counts.freed_is))

pub returns-in-Err-clause-acted : goal.returns-in-Err-clause-acted
returns-in-Err-clause-acted g c =
    let turn = c.in-Err.ensures in let seat = c.seat.inside in let pass = c.act.new.pass in let kind = g.K.Kind in let is = ap (λ s. s.pass) c.seat.view_is in (
      turn.1,
      length turn.0,
      acted_here c.args.self.now c.args.seat.now seat.pass is c.requires.of.0 pass turn.1 (acted _ seat.pass pass _ turn.0 turn.1 turn.2),
      seen_long _ seat.pass pass _ turn.0 turn.1 turn.2,
      subst (λ (home : Homes). IsAllocated kind.constructed kind.never_refuses home (length turn.0) (Err c.in-Err.refused) turn.1) (home_here c.args.self.now c.args.seat.now seat.pass is c.requires.of.0) turn.2.answered,
    )
