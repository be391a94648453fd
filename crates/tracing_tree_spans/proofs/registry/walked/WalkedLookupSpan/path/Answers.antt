use Rattle.tracing_tree_spans.proofs.GrownForests.{as_forest}
use Rattle.tracing_tree_spans.proofs.registry.walked.WalkedLookupSpan.path.Goals as goal

pub returns-in_err-path-clause-formed : goal.returns-in_err-path-clause-formed
returns-in_err-path-clause-formed c = as_forest c.args.self.now c.scope.ensures.formed

pub returns-clause-formed : goal.returns-clause-formed
returns-clause-formed c = as_forest c.args.self.now c.scope.ensures.formed
