use Rattle.kmem_cache.proofs.Histories.{step_stands}
use Rattle.kmem_cache.proofs.turns.BeginTurnTurnLocked.run.Goals as goal

pub returns-clause-told : goal.returns-clause-told
returns-clause-told g c h stands can =
    let made = c.begin.ensures in
    (step_stands c.args.object.now c.begin.new.self h c.args._who c.begin.result.1 made.step stands, made.answer)
