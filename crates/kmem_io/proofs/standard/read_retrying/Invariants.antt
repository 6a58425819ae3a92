use Rattle.std.proofs.Common.{◌≡◌, length}
use Rattle.std.specs.Io.KnownBytes.{Keeps}
use Rattle.kmem_io.proofs.standard.read_retrying.Given as goal

-- nothing was given so far
abbrev pub invariant-loop : goal.invariant-loop
invariant-loop g l = (length l.buffer ≡ length l.initial.buffer) × Keeps (g.T.Read.remaining l.initial.reader) (g.T.Read.remaining l.reader)
