use Rattle.std.proofs.Common.{◌+◌, ◌<◌, length, ap, ◌∙◌, subst, arith}
use Rattle.kmem_buf.specs.Homes.{Homes}
use Rattle.kmem_model.specs.CacheCounts.{made_out, made_free, total}
use Rattle.hist_lock.specs.History.{listed}
use Rattle.kmem_cache.specs.Seats.{CacheSeatState}
use Rattle.kmem_cache.specs.Seated.{seat_of}
use Rattle.kmem_cache.proofs.Seating.{acted, acted_here, home_here, out_after, seat_acted}
use Rattle.kmem_cache.proofs.shared_cache.Cache.still.Goals as goal

pub invariant_of-seat : goal.invariant_of-seat
invariant_of-seat g c =
    let turn = c.in-Some.ensures in let seat = c.seat.inside in let pass = c.act.new.pass in
    seat_acted g.K.Kind.constructed seat.pass pass seat.cpu seat.spare seat.depot seat.lent seat.lent seat.returned seat.returned turn.1 c.seat.invariant
    (acted _ seat.pass pass _ turn.0 turn.1 turn.2)
    (omega (arith, ap (λ e. total made_out (listed e)) turn.2.answered.0, ap (λ e. total made_free (listed e)) turn.2.answered.0))

pub invariant_of-seat-in-None : goal.invariant_of-seat-in-None
invariant_of-seat-in-None g c =
    let turn = c.in-None.ensures in let seat = c.seat.inside in let pass = c.act.new.pass in
    seat_acted g.K.Kind.constructed seat.pass pass seat.cpu seat.spare seat.depot seat.lent seat.lent seat.returned c.one_more.result turn.1 c.seat.invariant
    (acted _ seat.pass pass _ turn.0 turn.1 turn.2)
    (omega (arith, ap (λ e. total made_out (listed e)) turn.2.answered, ap (λ e. total made_free (listed e)) turn.2.answered, c.one_more.ensures))

pub returns-in-Some-clause-acted : goal.returns-in-Some-clause-acted
returns-in-Some-clause-acted g c =
    let turn = c.in-Some.ensures in let seat = c.seat.inside in let pass = c.act.new.pass in let is = ap (λ s. s.pass) c.seat.view_is in let says = turn.2.answered in
    let at = ap (λ p. p.site.home) is ∙ ap (λ s. s.home) c.requires.of.0 in (
      turn.1,
      acted_here c.args.self.now c.args.seat.now seat.pass is c.requires.of.0 pass turn.1 (acted _ seat.pass pass _ turn.0 turn.1 turn.2),
      (
        says.0,
        says.1,
        out_after _ seat.pass pass _ turn.0 turn.1 turn.2 c.args.self.now.lock.home c.args.job.move.from at says.0 says.2,
        subst (λ (home : Homes). c.args.job.move.from < length home.cells) (home_here c.args.self.now c.args.seat.now seat.pass is c.requires.of.0) says.3,
        ap (λ (s : CacheSeatState). record s { pass = pass }) c.seat.view_is,
      ),
    )

pub returns-in-None-clause-acted : goal.returns-in-None-clause-acted
returns-in-None-clause-acted g c =
    let turn = c.in-None.ensures in let seat = c.seat.inside in let pass = c.act.new.pass in let is = ap (λ s. s.pass) c.seat.view_is in (
      turn.1,
      acted_here c.args.self.now c.args.seat.now seat.pass is c.requires.of.0 pass turn.1 (acted _ seat.pass pass _ turn.0 turn.1 turn.2),
      (
        turn.2.answered,
        ap (λ n. seat_of pass seat.cpu seat.depot seat.lent n) c.one_more.ensures ∙ ap (λ (s : CacheSeatState). record s { pass = pass; returned = s.returned + 1 }) c.seat.view_is,
      ),
    )
