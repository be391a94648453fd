use Rattle.std.proofs.Common.{string_bytes}
use Rattle.tracing_tree_drawing.proofs.LineLaws.{extended-cut}
use Rattle.tracing_tree_drawing.proofs.format.draw.RowDrawing.draw_anew.Goals as goal

pub returns-in_err-block-clause-extended : goal.returns-in_err-block-clause-extended
returns-in_err-block-clause-extended c =
    rw c.in_err-block.ensures.err.0 (extended-cut c.args.place.start (string_bytes c.args.out.now))
