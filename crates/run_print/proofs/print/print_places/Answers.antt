use Rattle.std.proofs.Common.{◌++◌, ◌∷◌, [], ℕ, refl, sym, ◌∙◌, subst}
use Rattle.std.specs.List.{flat_map}
use Rattle.std.proofs.lemmas.List.{take_all}
use Rattle.kmem_model.specs.declared.record_entry.RecordEntry.{RecordEntry}
use Rattle.kmem_model.specs.RunLines.{place_line}
use Rattle.run_print.specs.Pages.{Carries, CarriesFront}
use Rattle.run_print.specs.Printed.{reply_at}
use Rattle.run_print.proofs.Carried.{carries_none, next_carried, next_front, front_more, carried_front, lines_of}
use Rattle.run_print.proofs.print.print_places.Given.{Over}
use Rattle.run_print.proofs.print.print_places.Goals as goal

pub loop-entry-init : goal.loop-entry-init
loop-entry-init g c = record { faults = refl; carried = carries_none _ _ }

pub loop-entry-preserved : goal.loop-entry-preserved
loop-entry-preserved g c = record {
  faults = c.in_ok-print_place.ensures.counted ∙ c.loop-entry.invariant.faults;
  carried = next_carried (λ (e : ℕ × RecordEntry). place_line (reply_at e) ++ 10 ∷ []) _ _ _ _ _ _ c.args.entries.now c.loop-entry.entry-index c.entry-item.result c.loop-entry-test.true c.entry-item.is
      c.loop-entry.invariant.carried c.in_ok-print_place.ensures.carried;
}

pub returns-in_err-print_place-clause-front : goal.returns-in_err-print_place-clause-front
returns-in_err-print_place-clause-front g c =
    let entries = c.args.entries.now in
    subst (CarriesFront (g.W.Sink.written c.args.out.now) (g.W.Sink.written c.print_place.new.out) c.args.page.now) (sym (lines_of place_line entries))
    (next_front (λ (e : ℕ × RecordEntry). place_line (reply_at e) ++ 10 ∷ []) _ _ _ _ _ entries c.loop-entry.entry-index c.entry-item.result c.loop-entry-test.true c.entry-item.is
    c.loop-entry.invariant.carried (front_more _ _ _ [] ((λ (e : ℕ × RecordEntry). place_line (reply_at e) ++ 10 ∷ []) c.entry-item.result) c.in_err-print_place.ensures.front))

whole : (g : Over) (c : goal.After-loop-entry g) → Carries (g.W.Sink.written c.args.out.now) (g.W.Sink.written c.loop-entry.out) c.args.page.now c.loop-entry.page (flat_map (λ (e : ℕ × RecordEntry). place_line (reply_at e) ++ 10 ∷ []) c.args.entries.now)
whole g c =
    subst (λ es. Carries (g.W.Sink.written c.args.out.now) (g.W.Sink.written c.loop-entry.out) c.args.page.now c.loop-entry.page (flat_map (λ (e : ℕ × RecordEntry). place_line (reply_at e) ++ 10 ∷ []) es))
    (take_all c.loop-entry.entry-index c.args.entries.now c.loop-entry-test.false) c.loop-entry.invariant.carried

pub returns-clause-carried : goal.returns-clause-carried
returns-clause-carried g c =
    let entries = c.args.entries.now in
    subst (Carries (g.W.Sink.written c.args.out.now) (g.W.Sink.written c.loop-entry.out) c.args.page.now c.loop-entry.page) (sym (lines_of place_line entries)) (whole g c)

pub returns-clause-front : goal.returns-clause-front
returns-clause-front g c =
    let entries = c.args.entries.now in
    subst (CarriesFront (g.W.Sink.written c.args.out.now) (g.W.Sink.written c.loop-entry.out) c.args.page.now) (sym (lines_of place_line entries)) (carried_front _ _ c.args.page.now c.loop-entry.page (flat_map (λ (e : ℕ × RecordEntry). place_line (reply_at e) ++ 10 ∷ []) entries) (whole g c))
