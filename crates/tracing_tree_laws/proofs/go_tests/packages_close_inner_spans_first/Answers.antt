use Rattle.ttree_go_test.proofs.Laws.ClosesInward.{closes_after}
use Rattle.tracing_tree_laws.proofs.go_tests.packages_close_inner_spans_first.Goals as goal

pub returns : goal.returns
returns c = closes_after
