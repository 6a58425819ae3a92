use Rattle.std.proofs.Common.{◌≡◌, map, take}
use Rattle.std.specs.List.{flat_map, range_with_len}
use Rattle.kmem_model.specs.RunLines.{replies_at, replies_to, reply_line, as_lines}
use Rattle.run_print.specs.Pages.{Carries}
use Rattle.run_print.proofs.print.print_replies.Given as goal

-- the lines of the workers so far
abbrev pub invariant-loop-index : goal.invariant-loop-index
invariant-loop-index g l = record {
  faults : g.W.Sink.faults l.out ≡ g.W.Sink.faults l.fn.out;
  carried : Carries (g.W.Sink.written l.fn.out) (g.W.Sink.written l.out) l.fn.page l.page
      (flat_map (λ w. as_lines (map (reply_line l.script.names.items) (replies_to (replies_at l.entries) w))) (take l.index (range_with_len 1 l.workers)));
}
