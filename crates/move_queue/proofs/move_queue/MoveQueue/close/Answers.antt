use Rattle.std.proofs.Common.{All, ap, ◌∙◌, subst}
use Rattle.object_cache.specs.Moves.{IsJobOf}
use Rattle.move_queue.specs.declared.rule.Terms.{Terms}
use Rattle.move_queue.specs.Queue.{QueueState}
use Rattle.move_queue.specs.Seats.{known_by}
use Rattle.move_queue.proofs.Ending.{run_of}
use Rattle.move_queue.proofs.move_queue.MoveQueue.close.Goals as goal

pub returns-clause-jobs : goal.returns-clause-jobs
returns-clause-jobs g c =
    let terms = c.gather_all-pass.ensures.gathered.terms_are ∙ ap (λ (q : QueueState). q.terms) c.self.view_is in
    subst (λ (t : Terms). All (IsJobOf g.K.Kind.constructed t.home) c.drain-jobs.result.items) terms c.drain-jobs.ensures.are_jobs

pub returns-clause-order : goal.returns-clause-order
returns-clause-order g c =
    let parts = c.gather_all-pass in
    run_of g.K.Kind.constructed c.self.inside.count.shared.key c.args.seats.items (known_by parts.result.0) parts.result.1.me.0 c.drain-jobs.result.items parts.ensures.gathered c.drain-jobs.ensures
