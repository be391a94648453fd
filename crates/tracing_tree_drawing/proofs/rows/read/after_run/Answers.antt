use Rattle.std.specs.Char.{encode_utf8}
use Rattle.std.specs.List.{repeat}
use Rattle.tracing_tree_drawing.proofs.Characters.{horizontal}
use Rattle.tracing_tree_drawing.proofs.RowsRead.Trims.{after-first_none, stripped-run}
use Rattle.tracing_tree_drawing.proofs.rows.read.after_run.Goals as goal

pub returns-in_err-after_repeated : goal.returns-in_err-after_repeated
unfolding encode_utf8
returns-in_err-after_repeated c =
    rw c.from_residual.ensures (after-first_none (repeat c.args.count (encode_utf8 horizontal)) (encode_utf8 c.args.corner) c.args.text.now c.in_err-after_repeated.ensures)

pub returns : goal.returns
unfolding encode_utf8
returns c =
    stripped-run c.args.count c.args.corner c.args.text.now c.in_ok-after_repeated.field-0.now c.after_character.result c.in_ok-after_repeated.ensures c.after_character.ensures
