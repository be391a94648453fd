use Rattle.std.proofs.Common.{string_bytes}
use Rattle.std.proofs.Math.Seq.{split_at}
use Rattle.std.proofs.lemmas.Result.{err_from_is_err_and}
use Rattle.tracing_tree_layer.proofs.DrawnLaws.{planned_refused}
use Rattle.tracing_tree_layer.proofs.layer.drawing.CallDrawing.rows.Goals as goal

pub returns-in_err-row : goal.returns-in_err-row
returns-in_err-row g c =
    let self = c.args.self.now in
    let p = err_from_is_err_and c.from_residual.result c.from_residual.ensures.1 in
    rw (p.1, p.2) (planned_refused self.config.now self.context.now (g.S.LookupSpan.forest self.spans.now) c.args.rows.now c.loop-row.row-index _ _
    (string_bytes c.args.page.now) (string_bytes c.loop-row.page) (string_bytes c.row.new.page) c.loop-row.invariant c.in_err-row.ensures (split_at c.args.rows.now c.loop-row.row-index _ c.loop-row-test.true))
