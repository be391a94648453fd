use Rattle.test_threads.proofs.drafts.draft_while_locked.Given as goal

abbrev pub ghosts-locked_with : goal.ghosts-locked_with
ghosts-locked_with g a = record { name = a.blank.name; parts = a.blank.parts }
