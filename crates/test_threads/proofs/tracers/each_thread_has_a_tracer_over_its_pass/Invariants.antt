use Rattle.test_threads.proofs.tracers.each_thread_has_a_tracer_over_its_pass.Given as goal

abbrev pub ghosts-passes_with : goal.ghosts-passes_with
ghosts-passes_with g a = record { name = a.blank.name; parts = a.blank.parts }
