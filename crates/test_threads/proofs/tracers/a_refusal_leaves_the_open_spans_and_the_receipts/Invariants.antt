use Rattle.test_threads.proofs.tracers.a_refusal_leaves_the_open_spans_and_the_receipts.Given as goal

abbrev pub ghosts-refused_with : goal.ghosts-refused_with
ghosts-refused_with g a = record { name = a.blank.name; parts = a.blank.parts }
