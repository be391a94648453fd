use Rattle.ttree_go_test.proofs.Laws.Nests.{printed_after}
use Rattle.tracing_tree_laws.proofs.go_tests.tests_print_in_their_own_spans.Goals as goal

pub returns : goal.returns
returns c = printed_after
