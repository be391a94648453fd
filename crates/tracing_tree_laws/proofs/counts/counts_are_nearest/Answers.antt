use Rattle.tracing_tree_laws.proofs.Nearest.{nearest-is, nearest-only}
use Rattle.tracing_tree_laws.proofs.counts.counts_are_nearest.Goals as goal

pub returns-clause-nearest : goal.returns-clause-nearest
returns-clause-nearest c = nearest-is

pub returns-clause-only : goal.returns-clause-only
returns-clause-only c = nearest-only
