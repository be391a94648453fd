use Rattle.ttree_junit.proofs.Failing.{failed_by_an_outcome}
use Rattle.tracing_tree_laws.proofs.junit.reports_fail_by_a_case_or_a_suite.Goals as goal

pub returns : goal.returns
returns c = failed_by_an_outcome
