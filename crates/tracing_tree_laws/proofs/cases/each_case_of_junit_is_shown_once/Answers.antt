use Rattle.ttree_junit.proofs.ShownOnce.{each_case_shown}
use Rattle.tracing_tree_laws.proofs.cases.each_case_of_junit_is_shown_once.Goals as goal

pub returns : goal.returns
returns c = each_case_shown
