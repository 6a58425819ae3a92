use Rattle.std.proofs.Common.{Some, ap}
use Rattle.kmem_cache.proofs.Histories.{step_stands}
use Rattle.kmem_cache.proofs.turns.EndTurnTurnLocked.run.Goals as goal

pub returns-clause-told : goal.returns-clause-told
returns-clause-told g c h stands can =
    let made = c.end.ensures in
    (step_stands c.args.object.now c.end.new.self h c.args._who (Some c.end.result) made.made stands, ap Some made.entry)
