use Rattle.std.proofs.Common.{◌∙◌, ap, sym, subst, List}
use Rattle.std.proofs.lemmas.Result.{err_from_is_err_and}
use Rattle.std.proofs.lemmas.List.{take_all}
use Rattle.tracing_tree_drawing.specs.Rows.RowText.{TextRow, AreTextRows, rows_text}
use Rattle.tracing_tree_drawing.proofs.RowsRead.DrawnRows.{narrow-at}
use Rattle.tracing_tree_drawing.proofs.rows.draw.draw_rows.Goals as goal

pub draw_row-requires : goal.draw_row-requires
draw_row-requires c =
    narrow-at c.args.amount c.args.rows.now c.loop-row.row-index c.row-item.result (sym c.are_too_wide.ensures ∙ c.if-are_too_wide.false) c.loop-row-test.true c.row-item.is

pub returns-in_err-draw_row : goal.returns-in_err-draw_row
returns-in_err-draw_row c =
    let p = err_from_is_err_and c.from_residual.result c.from_residual.ensures.1 in
    rw (p.1, p.2) (sym c.are_too_wide.ensures ∙ c.if-are_too_wide.false)

pub returns : goal.returns
returns c =
    let rows : List TextRow = c.args.rows.now in
    let all = take_all c.loop-row.row-index rows c.loop-row-test.false in (
      sym c.are_too_wide.ensures ∙ c.if-are_too_wide.false,
      record {
        proper = subst (λ (rs : List TextRow). AreTextRows rs) all c.loop-row.invariant.1;
        drawn = ap (rows_text c.args.amount) (sym all) ∙ sym c.loop-row.invariant.0;
      },
    )
