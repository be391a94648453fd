use Rattle.test_threads.proofs.threads.two_threads.Given as goal

abbrev pub ghosts-two_threads_with : goal.ghosts-two_threads_with
ghosts-two_threads_with g a = record { name = a.blank.name; parts = a.blank.parts }
