use Rattle.std.proofs.Common.{◌≡◌, ◌+◌, ◌++◌, ◌∷◌, [], ℕ, List, length, ap₂, sym, ◌∙◌, arith}
use Rattle.std.proofs.lemmas.List.FromFn.{map-range_with_len_more}
use Rattle.kmem_model.specs.History.{commands_of}
use Rattle.run_engine.proofs.quotas.command_counts.Goals as goal

pub loop-worker-preserved : goal.loop-worker-preserved
loop-worker-preserved c =
    let w = c.loop-worker.worker in
    let next : 1 + w ≡ w + 1 = omega arith in
    c.in_ok-push.ensures.items
    ∙ (ap₂ (λ (l : List ℕ) (n : ℕ). l ++ n ∷ []) c.loop-worker.invariant c.count_of.ensures.count
    ∙ sym (map-range_with_len_more (λ k. length (commands_of k c.args.lines.now)) 1 w (w + 1) next))
