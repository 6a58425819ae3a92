use Rattle.move_queue.proofs.deal.deal_seat.Given as goal

abbrev pub ghosts-deal_pass : goal.ghosts-deal_pass
ghosts-deal_pass g a = record { quota = a.quota }

abbrev pub ghosts-deal_mark : goal.ghosts-deal_mark
ghosts-deal_mark g a = record { quota = a.quota }
