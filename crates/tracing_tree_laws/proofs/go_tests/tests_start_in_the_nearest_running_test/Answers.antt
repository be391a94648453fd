use Rattle.ttree_go_test.proofs.Laws.Nests.{ran_after}
use Rattle.tracing_tree_laws.proofs.go_tests.tests_start_in_the_nearest_running_test.Goals as goal

pub returns : goal.returns
returns c = ran_after
