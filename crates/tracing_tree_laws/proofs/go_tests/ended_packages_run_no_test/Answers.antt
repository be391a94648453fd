use Rattle.ttree_go_test.proofs.Laws.ClosesInward.{gone_after}
use Rattle.tracing_tree_laws.proofs.go_tests.ended_packages_run_no_test.Goals as goal

pub returns : goal.returns
returns c = gone_after
