use Rattle.ttree_junit.proofs.Failing.{counts_of_outcomes}
use Rattle.tracing_tree_laws.proofs.junit.each_case_counts_once.Goals as goal

pub returns : goal.returns
returns c = counts_of_outcomes
