use Rattle.std.proofs.Common.{◌≡◌, ◌++◌, ◌==◌, map, take, string_bytes}
use Rattle.tracing_tree_drawing.specs.Rows.RowText.{ended}
use Rattle.tracing_tree_drawing.proofs.RowsRead.RowLines.{framed_lines}
use Rattle.tracing_tree_drawing.proofs.rows.draw.draw_row.Given as goal

abbrev pub invariant-loop-line : goal.invariant-loop-line
invariant-loop-line l =
    (string_bytes l.out ≡ string_bytes l.initial.out
    ++ ended (framed_lines l.fn.amount l.fn.row.shape l.fn.row.level (map (λ s. string_bytes s) (take l.line-index l.line-items))))
    × (l.first ≡ (l.line-index == 0))
