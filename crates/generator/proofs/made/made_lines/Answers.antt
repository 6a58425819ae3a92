use Rattle.std.proofs.Common.{◌≡◌, ◌+◌, ◌*◌, ◌%◌, ◌∙◌, ap, arith}
use Rattle.generator.specs.Draws.{draw, state_after}
use Rattle.generator.specs.Made.{made_command}
use Rattle.generator.proofs.Making.{one_more}
use Rattle.generator.proofs.made.made_lines.Goals as goal

pub loop-i-preserved : goal.loop-i-preserved
loop-i-preserved c =
    let seed = c.args.seed in
    let i = c.loop-i.i in
    let begun = c.loop-i.invariant.drawn in
    let chosen = c.next-chosen.ensures.draw seed (3 * i) begun in
    let once = c.next-chosen.ensures.state seed (3 * i) begun in
    let first = c.next-first.ensures.draw seed (3 * i + 1) once in
    let twice : c.next-first.new.self.state ≡ state_after seed (3 * i + 2) =
    c.next-first.ensures.state seed (3 * i + 1) once ∙ ap (state_after seed) (omega arith) in
    let second = c.next-second.ensures.draw seed (3 * i + 2) twice in
    let thrice = c.next-second.ensures.state seed (3 * i + 2) twice in
    let command : c.made_command.result ≡ made_command (draw seed (3 * i)) (draw seed (3 * i + 1)) (draw seed (3 * i + 2)) =
    c.made_command.ensures ∙ (λ k. made_command (chosen k) (first k) (second k)) in
    record {
      lines = c.in_ok-push.ensures.items
          ∙ one_more seed c.args.workers i _ _ c.loop-i.invariant.lines (λ k. record { worker = 1 + i % c.args.workers; command = command k });
      drawn = thrice ∙ ap (state_after seed) (omega arith);
    }
