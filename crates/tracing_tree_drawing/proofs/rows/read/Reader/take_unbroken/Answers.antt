use Rattle.tracing_tree_drawing.specs.Rows.Line.{one_line_row}
use Rattle.tracing_tree_drawing.proofs.RowsRead.Taken.{first-row}
use Rattle.tracing_tree_drawing.proofs.rows.read.Reader.take_unbroken.Goals as goal

pub of_line-requires : goal.of_line-requires
of_line-requires c =
    let first = c.in-Some.first in
    first-row c.self.inside.amount c.self.invariant c.args.line.now (one_line_row first.shape first.level first.text.now) c.requires c.in-Some.ensures
