use Rattle.std.specs.Char.{encode_utf8}
use Rattle.tracing_tree_drawing.proofs.RowsRead.BareLines.{event-none, event-some}
use Rattle.tracing_tree_drawing.proofs.rows.read.read_event.Goals as goal

pub returns-in_err-text : goal.returns-in_err-text
unfolding encode_utf8
returns-in_err-text c =
    rw c.from_residual.ensures (event-none c.args.amount c.args.spaces c.args.text.now c.if-spaces-amount-ne0.false c.in_err-text.ensures)

pub returns : goal.returns
unfolding encode_utf8
returns c = event-some c.args.amount c.args.spaces c.args.text.now c.in_ok-text.text.now c.if-spaces-amount-ne0.false c.in_ok-text.ensures
