use Rattle.std.proofs.Common.{◌≤◌, subst}
use Rattle.crossbeam_queue.specs.Passes.{view}
use Rattle.move_queue.proofs.RingMoves.{deals}
use Rattle.move_queue.proofs.ring.deal_pass.Goals as goal

pub another-requires-clause-rule : goal.another-requires-clause-rule
another-requires-clause-rule g c =
    let v = view c.args.dealer.now in
    deals g.K.Kind.constructed c.args.dealer.now.id g.B.Quota.quota v c.requires.unused.0 c.requires.unused.1 c.requires.some (subst (λ n. n ≤ v.left) c.requires.quota c.requires.enough)
