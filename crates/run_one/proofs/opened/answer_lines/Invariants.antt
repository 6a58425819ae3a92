use Rattle.std.proofs.Common.{◌≡◌, ◌≤◌, length, take}
use Rattle.kmem_model.specs.OneRun.{OneRun}
use Rattle.run_one.specs.Bench.{Stands, RunsAt}
use Rattle.run_one.proofs.Within.{IsOnPage}
use Rattle.run_one.proofs.opened.answer_lines.Given as goal

-- of the replies to all lines, what isn't written yet stands in the page, or is the reply to a line that is left
abbrev pub invariant-loop-index : goal.invariant-loop-index
invariant-loop-index g l = record {
  at : l.at ≤ length l.page;
  names : length l.bench.heap.heap.names ≡ length l.script.names.items;
  faults : g.W.Sink.faults l.out ≡ g.W.Sink.faults l.fn.out;
  stands : Stands l.bench;
  written : (start : OneRun) → RunsAt start l.fn.bench → IsOnPage l.every l.script.names.items l.script.lines.items l.index start l.bench (g.W.Sink.written l.fn.out) (g.W.Sink.written l.out) (take l.at l.page);
}
