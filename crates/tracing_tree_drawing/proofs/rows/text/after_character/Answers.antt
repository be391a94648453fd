use Rattle.tracing_tree_drawing.proofs.RowsRead.Trims.{stripped-character}
use Rattle.tracing_tree_drawing.proofs.rows.text.after_character.Goals as goal

pub returns : goal.returns
returns c = stripped-character c.args.character c.args.text.now c.strip_prefix.result c.strip_prefix.ensures.cases
