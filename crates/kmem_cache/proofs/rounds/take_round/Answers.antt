use Rattle.magazine.specs.Layer.{layer_rounds}
use Rattle.kmem_cache.proofs.Magazines.{taken_ready}
use Rattle.kmem_cache.proofs.rounds.take_round.Goals as goal

pub returns-then-is_some-clause-ready : goal.returns-then-is_some-clause-ready
returns-then-is_some-clause-ready g c =
    taken_ready g.K.Kind.constructed c.args.store.now.home (layer_rounds c.args.cpu.now) (layer_rounds c.take-round.new.self) c.take-round.result
    c.if-is_some.ensures c.take-round.ensures.stack c.requires.ready
