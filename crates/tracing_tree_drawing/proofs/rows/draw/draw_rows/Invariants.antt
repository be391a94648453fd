use Rattle.std.proofs.Common.{◌≡◌, take, string_bytes}
use Rattle.tracing_tree_drawing.specs.Rows.RowText.{AreTextRows, rows_text}
use Rattle.tracing_tree_drawing.proofs.rows.draw.draw_rows.Given as goal

abbrev pub invariant-loop-row : goal.invariant-loop-row
invariant-loop-row l =
    (string_bytes l.text ≡ rows_text l.fn.amount (take l.row-index l.fn.rows)) × AreTextRows (take l.row-index l.fn.rows)
