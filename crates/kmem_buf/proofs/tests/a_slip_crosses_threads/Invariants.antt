use Rattle.kmem_buf.proofs.tests.a_slip_crosses_threads.Given as goal

abbrev pub ghosts-lent_under_a_lock : goal.ghosts-lent_under_a_lock
ghosts-lent_under_a_lock g a = record { home = a.stub.home }
