use Rattle.test_threads.proofs.threads.no_passes.Given as goal

abbrev pub ghosts-no_passes_with : goal.ghosts-no_passes_with
ghosts-no_passes_with g a = record { name = a.blank.name; parts = a.blank.parts }
