use Rattle.tracing_tree_base.proofs.Extended.{cuts_back}
use Rattle.tracing_tree_drawing.proofs.format.draw.RowDrawing.begin.Goals as goal

pub truncate-requires : goal.truncate-requires
truncate-requires c = λ within. cuts_back c.args.out.now c.push_start.new.out c.len-start.result c.len-start.ensures c.push_start.ensures.extended
