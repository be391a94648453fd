use Rattle.test_threads.proofs.refusals.a_timers_fault_is_the_last_but_failed.Given as goal

abbrev pub ghosts-stopped_with : goal.ghosts-stopped_with
ghosts-stopped_with g a = record { name = a.blank.name; parts = a.blank.parts }
