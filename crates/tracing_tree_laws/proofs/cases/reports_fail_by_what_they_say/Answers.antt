use Rattle.ttree_junit.proofs.ShownCounts.{fails_by_cases}
use Rattle.tracing_tree_laws.proofs.cases.reports_fail_by_what_they_say.Goals as goal

pub returns : goal.returns
returns c = fails_by_cases
