use Rattle.tracing_tree_base.proofs.Extended.{cuts_back_to}
use Rattle.tracing_tree_drawing.proofs.format.draw.RowDrawing.end.Goals as goal

pub truncate-requires : goal.truncate-requires
truncate-requires c = λ within. cuts_back_to c.args.out.now c.finish.new.out c.args.place.start c.requires.start c.finish.ensures.extended
