use Rattle.std.proofs.Common.{◌≡◌, ◌++◌, ◌∷◌, [], take}
use Rattle.std.specs.List.{flat_map}
use Rattle.kmem_model.specs.RunLines.{place_line}
use Rattle.run_print.specs.Pages.{Carries}
use Rattle.run_print.specs.Printed.{reply_at}
use Rattle.run_print.proofs.print.print_places.Given as goal

-- the lines of the entries so far
abbrev pub invariant-loop-entry : goal.invariant-loop-entry
invariant-loop-entry g l = record {
  faults : g.W.Sink.faults l.out ≡ g.W.Sink.faults l.fn.out;
  carried : Carries (g.W.Sink.written l.fn.out) (g.W.Sink.written l.out) l.fn.page l.page (flat_map (λ e. place_line (reply_at e) ++ 10 ∷ []) (take l.entry-index l.entries));
}
