use Rattle.check_stress.proofs.both_rounds.Given as goal

abbrev pub ghosts-shared_round : goal.ghosts-shared_round
ghosts-shared_round g a = record { name = a.blank.name; parts = a.blank.parts }
