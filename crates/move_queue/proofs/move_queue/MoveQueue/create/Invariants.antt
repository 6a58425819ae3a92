use Rattle.move_queue.proofs.move_queue.MoveQueue.create.Given as goal

abbrev pub ghosts-tell : goal.ghosts-tell
ghosts-tell g a = record { terms = a.terms.now }
