use Rattle.std.proofs.Common.{sym, ap, subst, length}
use Rattle.crossbeam_queue.specs.Fifo.{Held}
use Rattle.move_queue.specs.Queue.{QueueState, QueueSeatState}
use Rattle.move_queue.specs.Rule.{IsNumbered}
use Rattle.move_queue.specs.Seats.{known_by}
use Rattle.move_queue.proofs.Refused.{was_full}
use Rattle.move_queue.proofs.move_queue.MoveQueue.push_job.Goals as goal

pub returns-in-Err-clause-full : goal.returns-in-Err-clause-full
returns-in-Err-clause-full g c =
    let S = QueueSeatState g.row.K-Object.Denot in let is = c.seat.view_is in let v = known_by c.seat.inside.pass in
    was_full c.args.self.now c.args.seat.now v c.requires.of.terms (ap (λ (s : S). s.left) (sym is)) (ap (λ (s : S). s.terms) (sym is)) (ap (λ (s : S). length s.pushed) (sym is)) (ap (λ (s : S). length s.popped) (sym is))
    (subst (λ n. Held n (IsNumbered v)) (ap (λ (q : QueueState). q.capacity) c.self.view_is) c.in-Err.ensures.pushed.2)
