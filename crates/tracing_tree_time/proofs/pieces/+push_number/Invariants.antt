use Rattle.tracing_tree_time.proofs.pieces.+push_number.Given as goal

abbrev pub decreases-push_number : goal.decreases-push_number
decreases-push_number l = l.number
