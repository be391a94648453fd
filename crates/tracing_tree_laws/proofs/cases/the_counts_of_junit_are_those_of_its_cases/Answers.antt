use Rattle.ttree_junit.proofs.ShownCounts.{counts_of_cases}
use Rattle.tracing_tree_laws.proofs.cases.the_counts_of_junit_are_those_of_its_cases.Goals as goal

pub returns : goal.returns
returns c = counts_of_cases
