use Rattle.std.proofs.Common.{◌≡◌, ◌-◌, ◌≤◌, length, vec_len}
use Rattle.std.specs.Io.KnownBytes.{Consumes}
use Rattle.kmem_io.proofs.whole.read_all.Given as goal

-- what was read so far is the front of what was left
abbrev pub invariant-reading : goal.invariant-reading
invariant-reading g l = record {
  within : vec_len l.bytes ≤ l.limit;
  size : length l.chunk ≡ 4096;
  same_faults : g.R.Source.faults l.input ≡ g.R.Source.faults l.fn.input;
  read : Consumes (g.R.Source.left l.fn.input) (g.R.Source.left l.input) l.bytes.items;
}

abbrev pub decreases-reading : goal.decreases-reading
decreases-reading g l = l.limit - vec_len l.bytes
