use Rattle.ttree_logs.proofs.logs.line.+word_within.Given as goal

-- a turn has one key fewer
abbrev pub decreases-word_within : goal.decreases-word_within
decreases-word_within l = l.keys
