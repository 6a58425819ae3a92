use Rattle.std.proofs.Common.{Some, ap}
use Rattle.kmem_cache.proofs.Histories.{step_stands}
use Rattle.kmem_cache.proofs.turns.FreeTurnTurnLocked.run.Goals as goal

pub returns-clause-told : goal.returns-clause-told
returns-clause-told g c h stands can =
    let made = c.free.ensures in
    (step_stands c.args.object.now c.free.new.self h c.args._who (Some c.free.result) made.made stands, ap Some made.entry)
