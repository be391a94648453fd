use Rattle.tracing_tree_layer.proofs.Runs.{continues}
use Rattle.tracing_tree_laws.proofs.runs.an_accepted_call_makes_runs_longer.Goals as goal

pub returns : goal.returns
returns c = continues
