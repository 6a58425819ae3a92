-- What the end of a queue shows.
use Rattle.std.proofs.Common.{List, sym, ap, ◌∙◌, subst, arith}
use Rattle.std.specs.List.{sum_by, enumerate_from, range_with_len}
use Rattle.object_cache.specs.Moves.{JobState}
use Rattle.move_queue.specs.declared.rule.Terms.{Terms}
use Rattle.move_queue.specs.declared.rule.View.{View}
use Rattle.move_queue.specs.declared.rule.CountView.{CountView}
use Rattle.move_queue.specs.Queue.{QueueSeatState, AreIn, HasRun}
use Rattle.move_queue.specs.Seats.{HasGathered, HasDrained}

-- in terms of the seats
pub run_of : {X : Type 0} (constructed : X → Type 0) (terms : Terms) (seats : List (QueueSeatState X)) (v : View X) (c : CountView) (left : List (JobState X)) → HasGathered terms seats v c → HasDrained constructed v left → HasRun seats left
run_of constructed terms seats v c left g d = record {
  jobs = d.jobs;
  pushed = g.pushed d.jobs d.pushed;
  popped = g.popped d.jobs d.popped;
  left_are = subst (λ n. AreIn d.jobs (enumerate_from n left)) g.popped_many d.left_are;
  many = omega (arith, d.many, g.popped_many);
  pushes = λ weight. sym (g.pushes weight) ∙ d.pushes weight;
  pops = λ weight. sym (g.pops weight) ∙ (d.pops weight ∙ ap (λ n. sum_by weight (range_with_len 0 n)) g.popped_many);
}
