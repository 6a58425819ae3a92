use Rattle.std.proofs.Common.{◌≡◌, length, map, ap, ◌∙◌, arith}
use Rattle.std.proofs.lemmas.List.Elements.{All-same}
use Rattle.run_engine.specs.Opened.{IsStarting, pass_of}
use Rattle.run_engine.specs.Done.{IsWorkerDone}
use Rattle.run_engine.proofs.Crews.{seam, all_done, same_passes}
use Rattle.run_engine.proofs.running.worked.Goals as goal

pub returns-clause-done : goal.returns-clause-done
returns-clause-done g c =
    let long : c.args.workers.len ≡ length c.run_workers.new.workers = omega (arith, c.args.workers.ok, c.run_workers.ensures.count, ap length c.deref_mut.ensures.value) in
    All-same (IsWorkerDone c.args.shared.now c.args.lines.now) _ c.run_workers.new.workers (seam _ c.run_workers.new.workers _ long)
    (all_done c.args.shared.now c.args.lines.now c.deref_mut.result.now c.run_workers.new.workers c.run_workers.ensures.count c.run_workers.ensures.worked
    (All-same (IsStarting c.args.shared.now c.args.lines.now) c.deref_mut.result.now c.args.workers.items c.deref_mut.ensures.value c.requires.starting))

pub returns-clause-passes : goal.returns-clause-passes
returns-clause-passes g c =
    let long : c.args.workers.len ≡ length c.run_workers.new.workers = omega (arith, c.args.workers.ok, c.run_workers.ensures.count, ap length c.deref_mut.ensures.value) in
    ap (map pass_of) (seam _ c.run_workers.new.workers _ long)
    ∙ (same_passes c.args.shared.now c.args.lines.now c.deref_mut.result.now c.run_workers.new.workers c.run_workers.ensures.count c.run_workers.ensures.worked
    ∙ ap (map pass_of) c.deref_mut.ensures.value)
