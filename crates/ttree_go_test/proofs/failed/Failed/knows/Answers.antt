use Rattle.std.proofs.Common.{rules}
use Rattle.ttree_go_test.proofs.FailedLines.{knows_as}
use Rattle.ttree_go_test.proofs.failed.Failed.knows.Goals as goal

pub returns : goal.returns
returns c = search (rules, knows_as)
