use Rattle.ttree_go_test.proofs.Passing.{none_unfinished}
use Rattle.tracing_tree_laws.proofs.failures.packages_that_pass_leave_nothing_unfinished.Goals as goal

pub returns : goal.returns
returns c = none_unfinished
