use Rattle.std.proofs.Common.{◌≡◌, take}
use Rattle.std.specs.List.{flat_map}
use Rattle.kmem_model.specs.RunLines.{reply_line}
use Rattle.run_print.specs.Pages.{Carries}
use Rattle.run_print.specs.Printed.{line_to}
use Rattle.run_print.proofs.print.print_worker.Given as goal

-- the worker's lines of the entries so far
abbrev pub invariant-loop-entry : goal.invariant-loop-entry
invariant-loop-entry g l = record {
  faults : g.W.Sink.faults l.out ≡ g.W.Sink.faults l.fn.out;
  carried : Carries (g.W.Sink.written l.fn.out) (g.W.Sink.written l.out) l.fn.page l.page (flat_map (line_to (reply_line l.script.names.items) l.worker) (take l.entry-index l.entries));
}
