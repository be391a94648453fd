use Rattle.ttree_tap.proofs.Failing.{last_row_counts}
use Rattle.tracing_tree_laws.proofs.tap.the_last_row_of_tap_counts.Goals as goal

pub returns : goal.returns
returns c = last_row_counts
