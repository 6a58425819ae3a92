use Rattle.std.proofs.Common.{◌≡◌}
use Rattle.depot.specs.Depot.{WasRefused}
use Rattle.kmem_cache.proofs.Magazines.{refilled}
use Rattle.kmem_cache.proofs.rounds.refill.Goals as goal

pub returns-in-Ok-clause-ready : goal.returns-in-Ok-clause-ready
returns-in-Ok-clause-ready g c =
    let places = c.args.store.now.places in let seat = c.args.seat.now in let seat' = c.swap_for_full.new.seat in
    let done = refilled g.K.Kind.constructed c.args.store.now.home places (c.take.new.self ≡ c.args.cpu.now × WasRefused places 1 seat seat') c.in-Ok.full c.args.cpu.now c.refill.new.self c.take.new.self c.take.result seat seat'
    c.requires.none c.refill.ensures.layer c.in-Ok.ensures.full.0 c.in-Ok.ensures.full.1 c.take.ensures.stack c.in-Ok.ensures.swapped in
    done.ready

pub returns-in-Ok-clause-taken : goal.returns-in-Ok-clause-taken
returns-in-Ok-clause-taken g c =
    let places = c.args.store.now.places in let seat = c.args.seat.now in let seat' = c.swap_for_full.new.seat in
    let done = refilled g.K.Kind.constructed c.args.store.now.home places (c.take.new.self ≡ c.args.cpu.now × WasRefused places 1 seat seat') c.in-Ok.full c.args.cpu.now c.refill.new.self c.take.new.self c.take.result seat seat'
    c.requires.none c.refill.ensures.layer c.in-Ok.ensures.full.0 c.in-Ok.ensures.full.1 c.take.ensures.stack c.in-Ok.ensures.swapped in
    done.taken
