use Rattle.ttree_go_test.proofs.Failing.{some_failed_after}
use Rattle.tracing_tree_laws.proofs.failures.tests_fail_by_a_line_or_a_package_that_runs.Goals as goal

pub returns : goal.returns
returns c = some_failed_after
