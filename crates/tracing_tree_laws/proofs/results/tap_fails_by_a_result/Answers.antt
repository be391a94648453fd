use Rattle.ttree_tap.proofs.ShownLines.{fails_by_results}
use Rattle.tracing_tree_laws.proofs.results.tap_fails_by_a_result.Goals as goal

pub returns : goal.returns
returns c = fails_by_results
