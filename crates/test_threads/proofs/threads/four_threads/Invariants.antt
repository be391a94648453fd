use Rattle.test_threads.proofs.threads.four_threads.Given as goal

abbrev pub ghosts-four_threads_with : goal.ghosts-four_threads_with
ghosts-four_threads_with g a = record { name = a.blank.name; parts = a.blank.parts }
