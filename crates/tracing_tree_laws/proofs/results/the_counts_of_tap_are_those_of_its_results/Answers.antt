use Rattle.ttree_tap.proofs.ShownLines.{counts_of_results}
use Rattle.tracing_tree_laws.proofs.results.the_counts_of_tap_are_those_of_its_results.Goals as goal

pub returns : goal.returns
returns c = counts_of_results
