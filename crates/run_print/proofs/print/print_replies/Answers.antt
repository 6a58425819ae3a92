use Rattle.std.proofs.Common.{◌≡◌, ◌<◌, ◌+◌, ℕ, length, map, get_or, refl, sym, ◌∙◌, subst, arith}
use Rattle.std.specs.List.{flat_map, range_with_len}
use Rattle.std.proofs.lemmas.List.{take_all}
use Rattle.std.proofs.lemmas.List.FromFn.{get_or-range_with_len, length-range_with_len}
use Rattle.kmem_model.specs.RunLines.{replies_at, replies_to, reply_line, as_lines}
use Rattle.run_print.specs.Pages.{Carries, CarriesFront}
use Rattle.run_print.proofs.Carried.{carries_none, next_carried, next_front, carried_front, lines_by}
use Rattle.run_print.proofs.print.print_replies.Given.{Over}
use Rattle.run_print.proofs.print.print_replies.Goals as goal

-- the worker at a place
worker_at : (workers index : ℕ) → index < workers → index + 1 ≡ get_or (range_with_len 1 workers) index (index + 1)
worker_at workers index small = omega (arith, get_or-range_with_len 1 workers index (index + 1) small)

below : (workers index : ℕ) → index < workers → index < length (range_with_len 1 workers)
below workers index small = omega (arith, length-range_with_len 1 workers, small)

pub loop-index-init : goal.loop-index-init
loop-index-init g c = record { faults = refl; carried = carries_none _ _ }

pub loop-index-preserved : goal.loop-index-preserved
loop-index-preserved g c =
    let workers = c.args.workers in
    let index = c.loop-index.index in
    record {
      faults = c.in_ok-print_worker.ensures.counted ∙ c.loop-index.invariant.faults;
      carried = next_carried (λ (w : ℕ). as_lines (map (reply_line c.args.script.now.names.items) (replies_to (replies_at c.args.entries.now) w))) _ _ _ _ _ _ (range_with_len 1 workers) index (index + 1)
          (below workers index c.loop-index-test.true) (worker_at workers index c.loop-index-test.true)
          c.loop-index.invariant.carried c.in_ok-print_worker.ensures.carried;
    }

pub returns-in_err-print_worker-clause-front : goal.returns-in_err-print_worker-clause-front
returns-in_err-print_worker-clause-front g c =
    let workers = c.args.workers in
    let index = c.loop-index.index in
    subst (CarriesFront (g.W.Sink.written c.args.out.now) (g.W.Sink.written c.print_worker.new.out) c.args.page.now)
    (sym (lines_by (reply_line c.args.script.now.names.items) (replies_at c.args.entries.now) (range_with_len 1 workers)))
    (next_front (λ (w : ℕ). as_lines (map (reply_line c.args.script.now.names.items) (replies_to (replies_at c.args.entries.now) w))) _ _ _ _ _ (range_with_len 1 workers) index (index + 1)
    (below workers index c.loop-index-test.true) (worker_at workers index c.loop-index-test.true)
    c.loop-index.invariant.carried c.in_err-print_worker.ensures.front)

whole : (g : Over) (c : goal.After-loop-index g) →
    Carries (g.W.Sink.written c.args.out.now) (g.W.Sink.written c.loop-index.out) c.args.page.now c.loop-index.page
    (flat_map (λ (w : ℕ). as_lines (map (reply_line c.args.script.now.names.items) (replies_to (replies_at c.args.entries.now) w))) (range_with_len 1 c.args.workers))
whole g c =
    subst (λ ws. Carries (g.W.Sink.written c.args.out.now) (g.W.Sink.written c.loop-index.out) c.args.page.now c.loop-index.page
    (flat_map (λ (w : ℕ). as_lines (map (reply_line c.args.script.now.names.items) (replies_to (replies_at c.args.entries.now) w))) ws))
    (take_all c.loop-index.index (range_with_len 1 c.args.workers) (omega (arith, c.loop-index-test.false, length-range_with_len 1 c.args.workers))) c.loop-index.invariant.carried

pub returns-clause-carried : goal.returns-clause-carried
returns-clause-carried g c =
    subst (Carries (g.W.Sink.written c.args.out.now) (g.W.Sink.written c.loop-index.out) c.args.page.now c.loop-index.page)
    (sym (lines_by (reply_line c.args.script.now.names.items) (replies_at c.args.entries.now) (range_with_len 1 c.args.workers))) (whole g c)

pub returns-clause-front : goal.returns-clause-front
returns-clause-front g c =
    subst (CarriesFront (g.W.Sink.written c.args.out.now) (g.W.Sink.written c.loop-index.out) c.args.page.now)
    (sym (lines_by (reply_line c.args.script.now.names.items) (replies_at c.args.entries.now) (range_with_len 1 c.args.workers)))
    (carried_front _ _ c.args.page.now c.loop-index.page (flat_map (λ (w : ℕ). as_lines (map (reply_line c.args.script.now.names.items) (replies_to (replies_at c.args.entries.now) w))) (range_with_len 1 c.args.workers)) (whole g c))
