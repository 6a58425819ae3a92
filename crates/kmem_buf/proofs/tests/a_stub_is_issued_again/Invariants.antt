use Rattle.kmem_buf.proofs.tests.a_stub_is_issued_again.Given as goal

abbrev pub ghosts-lent_twice : goal.ghosts-lent_twice
ghosts-lent_twice g a = record { home = a.stub.home }
