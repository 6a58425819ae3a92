use Rattle.std.proofs.Common.{◌∷◌, [], length, ap, ◌∙◌, arith}
use Rattle.std.specs.List.{range_with_len}
use Rattle.std.proofs.lemmas.List.{length-append}
use Rattle.run_engine.proofs.Movers.{both_movers, dealt_some}
use Rattle.run_engine.proofs.Parting.{many_workers}
use Rattle.run_engine.proofs.opening.crew_of.Goals as goal

pub last_mover-second-requires : goal.last_mover-second-requires
last_mover-second-requires c =
    let some = dealt_some c.args.plan.now c.args.counts.items c.args.dealt c.requires.dealt in
    record { some = (omega (arith, some.0), omega (arith, some.1), omega (arith, some.2)) }

pub last_mover-first-requires : goal.last_mover-first-requires
last_mover-first-requires c =
    let some = dealt_some c.args.plan.now c.args.counts.items c.args.dealt c.requires.dealt in
    let last = c.last_mover-second.ensures in
    let new = c.last_mover-second.new in
    let got = c.last_mover-second.result in
    record {
      some = (
        omega (arith, some.0, ap length last.movers, length-append new.movers.items (got.mover ∷ [])),
        omega (arith, some.1, ap length last.seats, length-append new.seats.items (got.seat ∷ [])),
        omega (arith, some.2, ap length last.places, length-append new.places.items (got.place ∷ [])),
      );
    }

pub all_workers-requires-clause-dealt : goal.all_workers-requires-clause-dealt
all_workers-requires-clause-dealt c =
    let s = c.last_mover-second.ensures in
    let f = c.last_mover-first.ensures in
    (both_movers c.args.plan.now c.requires.shared.0 c.args.counts.items c.args.dealt c.last_mover-first.new.movers.items c.last_mover-second.new.movers.items
    c.last_mover-first.new.seats.items c.last_mover-second.new.seats.items c.last_mover-first.new.places.items c.last_mover-second.new.places.items
    c.last_mover-first.result c.last_mover-second.result c.requires.plan c.requires.shared.1 c.requires.many c.requires.dealt (s.plan.0 ∙ c.second_plan.ensures) s.plan.1
    (f.plan.0 ∙ c.first_plan.ensures) f.plan.1 s.movers f.movers s.seats f.seats s.places f.places).rest

pub returns-clause-crew : goal.returns-clause-crew
returns-clause-crew c =
    let s = c.last_mover-second.ensures in
    let f = c.last_mover-first.ensures in
    let both = both_movers c.args.plan.now c.requires.shared.0 c.args.counts.items c.args.dealt c.last_mover-first.new.movers.items c.last_mover-second.new.movers.items
    c.last_mover-first.new.seats.items c.last_mover-second.new.seats.items c.last_mover-first.new.places.items c.last_mover-second.new.places.items
    c.last_mover-first.result c.last_mover-second.result c.requires.plan c.requires.shared.1 c.requires.many c.requires.dealt (s.plan.0 ∙ c.second_plan.ensures) s.plan.1
    (f.plan.0 ∙ c.first_plan.ensures) f.plan.1 s.movers f.movers s.seats f.seats s.places f.places in
    record {
      workers = c.in_ok-workers.ensures.workers;
      passes = c.in_ok-workers.ensures.passes ∙ ap (range_with_len 0) c.requires.many;
      some = omega (arith, many_workers c.args.plan.now.workers c.in_ok-workers.workers.items (c.in_ok-workers.ensures.passes ∙ ap (range_with_len 0) c.requires.many), c.requires.plan.workers.0);
      first = both.first_waits;
      second = both.second_waits;
    }
