use Rattle.std.proofs.Common.{ℕ, subst}
use Rattle.kmem_cache.specs.Turns.{IsAllocated}
use Rattle.kmem_cache.proofs.Histories.{step_stands}
use Rattle.kmem_cache.proofs.turns.AllocTurnTurnLocked.run.Goals as goal

pub returns-clause-told : goal.returns-clause-told
returns-clause-told g c h stands room =
    let step = c.alloc.ensures.step in let kind = g.K.Kind in let out = c.alloc.result in (
      step_stands c.args.object.now c.alloc.new.self h c.args._who out.1 step stands,
      subst (λ (n : ℕ). IsAllocated kind.constructed kind.never_refuses c.args.object.now.cache.home n out.0 out.1) stands.counted c.alloc.ensures.answer,
    )
