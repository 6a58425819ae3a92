use Rattle.std.proofs.Common.{ap, ◌∙◌, subst}
use Rattle.kmem_buf.specs.Answers.{numbers_of}
use Rattle.depot.specs.Depot.{HasSwapped}
use Rattle.depot.specs.Steps.{state_of, IsFit}
use Rattle.depot.proofs.Tries.{tries_on, tries_end}
use Rattle.depot.proofs.places.try_all.Goals as goal

pub returns-in-Ok-clause-tried : goal.returns-in-Ok-clause-tried
returns-in-Ok-clause-tried g c =
    let inv = c.loop-place.invariant in let found = inv.found in let seat = c.args.seat.now in let ok = c.in-Ok.ensures.tried in
    let home = ap (λ m. m.0.home) found.3 in (
      subst (λ h. IsFit g.K.Kind.constructed h c.args.wanted c.in-Ok.out) home ok.0,
      subst (λ l. HasSwapped c.args.places c.args.wanted (numbers_of c.in-Ok.out) (numbers_of l) (state_of seat.table_id seat.me.0) (state_of c.try_place.new.seat.table_id c.try_place.new.seat.me.0)) inv.offered
          (tries_end seat.table_id c.try_place.new.seat.table_id seat.me.0 found.0 (numbers_of c.in-Ok.out) (numbers_of c.loop-place.offered) c.args.places c.loop-place.place c.args.wanted c.loop-place.seat.me c.try_place.new.seat.me
          (c.try_place.ensures.same.0 ∙ inv.same.0) c.loop-place-test.true found.1 found.2 found.3 ok.1),
    )

pub loop-place-preserved : goal.loop-place-preserved
loop-place-preserved g c =
    let inv = c.loop-place.invariant in let found = inv.found in let err = c.in-Err.ensures.tried in
    record {
      same = (c.try_place.ensures.same.0 ∙ inv.same.0, c.try_place.ensures.same.1 ∙ inv.same.1);
      offered = err.0 ∙ inv.offered;
      found = tries_on c.args.seat.now.me.0 found.0 c.loop-place.place c.args.wanted c.loop-place.seat.me c.try_place.new.seat.me found.1 found.2 found.3 err.1;
    }
