use Rattle.std.proofs.Common.{◌≡◌, ◌≤◌, length, take}
use Rattle.kmem_model.specs.History.{commands_of}
use Rattle.run_engine.proofs.quotas.count_of.Given as goal

abbrev pub invariant-loop-line : goal.invariant-loop-line
invariant-loop-line l = record {
  counted : l.count ≡ length (commands_of l.worker (take l.line-index l.lines));
  few : l.count ≤ l.line-index;
}
