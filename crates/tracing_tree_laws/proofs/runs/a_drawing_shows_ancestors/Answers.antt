use Rattle.tracing_tree_layer.proofs.Reading.Ancestors.{ancestors-shown}
use Rattle.tracing_tree_laws.proofs.runs.a_drawing_shows_ancestors.Goals as goal

pub returns : goal.returns
returns c = ancestors-shown
