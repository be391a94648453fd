use Rattle.ttree_tap.proofs.Failing.{failed_by_a_row}
use Rattle.tracing_tree_laws.proofs.tap.tap_fails_by_a_row.Goals as goal

pub returns : goal.returns
returns c = failed_by_a_row
