use Rattle.check_out_of_memory.proofs.share.Given as goal

abbrev pub ghosts-hand_in : goal.ghosts-hand_in
ghosts-hand_in g a = record { name = a.blank.name; parts = a.blank.parts }
