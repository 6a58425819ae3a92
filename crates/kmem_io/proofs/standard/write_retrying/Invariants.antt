use Rattle.std.specs.Io.KnownBytes.{Keeps}
use Rattle.kmem_io.proofs.standard.write_retrying.Given as goal

-- nothing was taken so far
abbrev pub invariant-loop : goal.invariant-loop
invariant-loop g l = Keeps (g.T.Write.contents l.initial.writer) (g.T.Write.contents l.writer)
