use Rattle.std.proofs.Common.{false, Ok, take, string_bytes}
use Rattle.tracing_tree_layer.specs.Layer.Plan.{rows_of_planned}
use Rattle.tracing_tree_layer.specs.Layer.Drawn.{DrawsRows}
use Rattle.tracing_tree_layer.proofs.layer.drawing.CallDrawing.rows.Given as goal

-- the rows so far are drawn
abbrev pub invariant-loop-row : goal.invariant-loop-row
invariant-loop-row g l =
    let forest = g.S.LookupSpan.forest l.self.spans.now in
    let rows = rows_of_planned l.self.config.now l.self.context.now forest (take l.row-index l.rows) in
    DrawsRows l.self.config.now rows false (Ok tt) (string_bytes l.initial.page) (string_bytes l.page)
