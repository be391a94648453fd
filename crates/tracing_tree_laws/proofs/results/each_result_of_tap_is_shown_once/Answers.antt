use Rattle.ttree_tap.proofs.ShownLines.{each_line_shown}
use Rattle.tracing_tree_laws.proofs.results.each_result_of_tap_is_shown_once.Goals as goal

pub returns : goal.returns
returns c = each_line_shown
