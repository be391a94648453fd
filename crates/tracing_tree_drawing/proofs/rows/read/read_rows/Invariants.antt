use Rattle.std.proofs.Common.{◌≡◌, length}
use Rattle.tracing_tree_drawing.specs.Rows.Texts.{IsReadTo}
use Rattle.tracing_tree_drawing.proofs.rows.read.read_rows.Given as goal

abbrev pub invariant-loop-rows : goal.invariant-loop-rows
invariant-loop-rows l = (l.lines.reader.amount ≡ l.fn.amount) × IsReadTo l.fn.text l.rows.items l.lines

abbrev pub decreases-loop-rows : goal.decreases-loop-rows
decreases-loop-rows l = length l.lines.rest
