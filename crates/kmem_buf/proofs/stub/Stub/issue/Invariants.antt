use Rattle.kmem_buf.proofs.stub.Stub.issue.Given as goal

abbrev pub ghosts-note : goal.ghosts-note
ghosts-note a = record { facts = a.facts.now }
