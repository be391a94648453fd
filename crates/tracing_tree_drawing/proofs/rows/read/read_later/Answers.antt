use Rattle.std.proofs.Common.{rules, length}
use Rattle.std.specs.Char.{encode_utf8}
use Rattle.tracing_tree_drawing.proofs.RowsRead.FarLines.{far-by}
use Rattle.tracing_tree_drawing.proofs.rows.read.read_later.Goals as goal

pub returns-in_err-before : goal.returns-in_err-before
returns-in_err-before c =
    rw c.from_residual-in_err-before.ensures (far-by c.args.amount c.args.shape c.args.level c.args.line.now (length c.without_spaces-rest.result.now) c.shift.result
    c.in_ok-checked_add.field-0 c.in_ok-checked_sub.field-0 (search rules) c.without_spaces-rest.ensures.count c.shift.ensures c.in_ok-checked_add.ensures.1
    c.in_ok-checked_sub.ensures.1 c.in_err-before.ensures)

pub returns : goal.returns
unfolding encode_utf8
returns c = search rules
