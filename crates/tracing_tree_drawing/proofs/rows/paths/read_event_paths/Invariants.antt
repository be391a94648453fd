use Rattle.std.proofs.Common.{◌≡◌, ◌≤◌, ◌+◌, List, length}
use Rattle.tracing_tree_drawing.specs.Rows.Paths.{ArePathsOf}
use Rattle.tracing_tree_drawing.specs.Rows.Texts.{IsReadTo}
use Rattle.tracing_tree_drawing.specs.Rows.RowText.{TextRow}
use Rattle.tracing_tree_drawing.proofs.rows.paths.read_event_paths.Given as goal

abbrev pub invariant-loop-so_far : goal.invariant-loop-so_far
invariant-loop-so_far l =
    (l.lines.reader.amount ≡ l.fn.amount) × (l.so_far.rows + length l.lines.rest ≤ length l.fn.text)
    × ((rows : List TextRow) × IsReadTo l.fn.text rows l.lines × ArePathsOf rows l.so_far.ancestry l.so_far.rows l.so_far.paths.items)

abbrev pub decreases-loop-so_far : goal.decreases-loop-so_far
decreases-loop-so_far l = length l.lines.rest
