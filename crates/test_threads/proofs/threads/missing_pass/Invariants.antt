use Rattle.test_threads.proofs.threads.missing_pass.Given as goal

abbrev pub ghosts-missing_pass_with : goal.ghosts-missing_pass_with
ghosts-missing_pass_with g a = record { name = a.blank.name; parts = a.blank.parts }
