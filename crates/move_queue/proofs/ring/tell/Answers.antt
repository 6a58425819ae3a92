use Rattle.std.proofs.Common.{subst, sym}
use Rattle.crossbeam_queue.specs.Fifo.{Forks}
use Rattle.move_queue.specs.declared.rule.Terms.{Terms}
use Rattle.move_queue.specs.declared.rule.View.{View}
use Rattle.move_queue.specs.Rule.{opener, spent, IsQueued}
use Rattle.move_queue.proofs.RingMoves.{tells}
use Rattle.move_queue.proofs.ring.tell.Goals as goal

pub another-nobody-requires-clause-rule : goal.another-nobody-requires-clause-rule
another-nobody-requires-clause-rule g c =
    let X = g.row.K-Object.Denot in let constructed = g.K.Kind.constructed in let id = c.args.pass.now.id in
    subst (λ (p : View X × Terms). Forks (IsQueued {X = X} constructed) id p.0 (opener {X = X} p.1) (spent {X = X})) (λ i. (sym c.requires.first i, c.requires.terms i))
    (tells constructed id c.args.terms.now c.requires.seats)
