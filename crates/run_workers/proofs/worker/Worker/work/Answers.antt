use Rattle.std.proofs.Common.{◌<◌, List, length, get_or, refl, ap, ◌∙◌, arith}
use Rattle.kmem_text.specs.declared.command.Command.{Command}
use Rattle.run_workers.proofs.Working.{working_on}
use Rattle.run_workers.proofs.worker.Worker.work.Goals as goal

pub loop-index-preserved : goal.loop-index-preserved
loop-index-preserved g c =
    let i = c.loop-index.index in
    let small : i < length c.args.self.now.commands.items = omega (arith, c.loop-index-test.true, c.len-index-end.ensures) in
    working_on c.args.cache.now c.args.self.now c.loop-index.self _ i c.index.result.now c.run.result small
    (c.index.ensures ∙ ap (λ (xs : List Command). get_or xs i c.index.result.now) c.loop-index.invariant.done.same.0)
    c.loop-index.invariant c.run.ensures.done refl refl
