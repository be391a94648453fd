use Rattle.test_threads.proofs.refusals.memory_that_is_refused_once_loses_nothing.Given as goal

abbrev pub ghosts-grown_with : goal.ghosts-grown_with
ghosts-grown_with g a = record { name = a.blank.name; parts = a.blank.parts }
