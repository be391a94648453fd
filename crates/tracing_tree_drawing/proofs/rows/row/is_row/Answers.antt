use Rattle.std.proofs.Common.{sym, ◌∙◌}
use Rattle.tracing_tree_drawing.proofs.RowsRead.Made.{row-empty, row-broken, row-fits}
use Rattle.tracing_tree_drawing.proofs.rows.row.is_row.Goals as goal
use Rattle.tracing_tree_drawing.proofs.rows.row.is_row.Goals.{then-is_empty-via-then-is_empty, then-is_empty-via-else-is_empty+then-not-are_unbroken}

pub returns-then-is_empty : goal.returns-then-is_empty
returns-then-is_empty c = elim c.then-is_empty.branch [
  | then-is_empty-via-then-is_empty w ↦ row-empty c.args.shape c.args.level c.args.lines.now (sym c.is_empty.ensures ∙ w.if-is_empty.true)
  | then-is_empty-via-else-is_empty+then-not-are_unbroken w ↦
      row-broken c.args.shape c.args.level c.args.lines.now (sym w.are_unbroken.ensures ∙ w.if-not-are_unbroken.true)
]

pub returns : goal.returns
returns c =
    c.fits_shape.ensures
    ∙ sym (row-fits c.args.shape c.args.level c.args.lines.now (sym c.is_empty.ensures ∙ c.if-is_empty.false) (sym c.are_unbroken.ensures ∙ c.if-not-are_unbroken.false))
