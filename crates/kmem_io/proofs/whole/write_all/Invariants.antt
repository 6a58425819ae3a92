use Rattle.std.proofs.Common.{◌≡◌, ◌-◌, ◌≤◌, length, take}
use Rattle.std.specs.Io.KnownBytes.{Appends}
use Rattle.kmem_io.proofs.whole.write_all.Given as goal

-- what was written so far is the front of the bytes
abbrev pub invariant-loop-at : goal.invariant-loop-at
invariant-loop-at g l = record {
  within : l.at ≤ length l.bytes;
  same_faults : g.W.Sink.faults l.out ≡ g.W.Sink.faults l.fn.out;
  written : Appends (g.W.Sink.written l.fn.out) (g.W.Sink.written l.out) (take l.at l.bytes);
}

abbrev pub decreases-loop-at : goal.decreases-loop-at
decreases-loop-at g l = length l.bytes - l.at
