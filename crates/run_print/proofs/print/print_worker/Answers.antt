use Rattle.std.proofs.Common.{[], refl, sym, ◌∙◌, subst}
use Rattle.std.specs.List.{flat_map}
use Rattle.std.proofs.lemmas.List.{take_all}
use Rattle.kmem_model.specs.RunLines.{reply_line}
use Rattle.run_print.specs.Pages.{Carries, CarriesFront}
use Rattle.run_print.specs.Printed.{line_to}
use Rattle.run_print.proofs.Carried.{carries_none, next_carried, next_front, front_more, carried_front, lines_to}
use Rattle.run_print.proofs.print.print_worker.Given.{Over}
use Rattle.run_print.proofs.print.print_worker.Goals as goal

pub loop-entry-init : goal.loop-entry-init
loop-entry-init g c = record { faults = refl; carried = carries_none _ _ }

pub loop-entry-preserved : goal.loop-entry-preserved
loop-entry-preserved g c = record {
  faults = c.in_ok-print_to.ensures.counted ∙ c.loop-entry.invariant.faults;
  carried = next_carried (line_to (reply_line c.args.script.now.names.items) c.args.worker) _ _ _ _ _ _ c.args.entries.now c.loop-entry.entry-index c.entry-item.result c.loop-entry-test.true c.entry-item.is
      c.loop-entry.invariant.carried c.in_ok-print_to.ensures.carried;
}

pub returns-in_err-print_to-clause-front : goal.returns-in_err-print_to-clause-front
returns-in_err-print_to-clause-front g c =
    let entries = c.args.entries.now in
    subst (CarriesFront (g.W.Sink.written c.args.out.now) (g.W.Sink.written c.print_to.new.out) c.args.page.now) (sym (lines_to (reply_line c.args.script.now.names.items) c.args.worker entries))
    (next_front (line_to (reply_line c.args.script.now.names.items) c.args.worker) _ _ _ _ _ entries c.loop-entry.entry-index c.entry-item.result c.loop-entry-test.true c.entry-item.is
    c.loop-entry.invariant.carried (front_more _ _ _ [] ((line_to (reply_line c.args.script.now.names.items) c.args.worker) c.entry-item.result) c.in_err-print_to.ensures.front))

whole : (g : Over) (c : goal.After-loop-entry g) → Carries (g.W.Sink.written c.args.out.now) (g.W.Sink.written c.loop-entry.out) c.args.page.now c.loop-entry.page (flat_map (line_to (reply_line c.args.script.now.names.items) c.args.worker) c.args.entries.now)
whole g c =
    subst (λ es. Carries (g.W.Sink.written c.args.out.now) (g.W.Sink.written c.loop-entry.out) c.args.page.now c.loop-entry.page (flat_map (line_to (reply_line c.args.script.now.names.items) c.args.worker) es))
    (take_all c.loop-entry.entry-index c.args.entries.now c.loop-entry-test.false) c.loop-entry.invariant.carried

pub returns-clause-carried : goal.returns-clause-carried
returns-clause-carried g c =
    let entries = c.args.entries.now in
    subst (Carries (g.W.Sink.written c.args.out.now) (g.W.Sink.written c.loop-entry.out) c.args.page.now c.loop-entry.page) (sym (lines_to (reply_line c.args.script.now.names.items) c.args.worker entries)) (whole g c)

pub returns-clause-front : goal.returns-clause-front
returns-clause-front g c =
    let entries = c.args.entries.now in
    subst (CarriesFront (g.W.Sink.written c.args.out.now) (g.W.Sink.written c.loop-entry.out) c.args.page.now) (sym (lines_to (reply_line c.args.script.now.names.items) c.args.worker entries)) (carried_front _ _ c.args.page.now c.loop-entry.page (flat_map (line_to (reply_line c.args.script.now.names.items) c.args.worker) entries) (whole g c))
