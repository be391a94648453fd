use Rattle.ttree_go_test.proofs.Laws.EachLine.{each_line_shown}
use Rattle.tracing_tree_laws.proofs.go_tests.each_printed_line_is_one_event.Goals as goal

pub returns : goal.returns
returns c = each_line_shown
