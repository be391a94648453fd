use Rattle.tracing_tree_drawing.proofs.RowsRead.Trims.{stripped-after}
use Rattle.tracing_tree_drawing.proofs.rows.text.strip_prefix.Goals as goal

pub returns : goal.returns
returns c = stripped-after c.args.front.now c.args.text.now c.strip_prefix.result c.strip_prefix.ensures.cases
