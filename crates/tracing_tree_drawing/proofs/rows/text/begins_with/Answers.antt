use Rattle.std.proofs.Common.{◌∙◌, sym}
use Rattle.std.specs.Char.{encode_utf8}
use Rattle.tracing_tree_drawing.proofs.RowsRead.BareLines.{begins-is, taken-emits}
use Rattle.tracing_tree_drawing.proofs.rows.text.begins_with.Goals as goal

pub returns : goal.returns
returns c =
    c.is_some.ensures
    ∙ sym (begins-is c.args.character c.args.text.now
    ∙ taken-emits (encode_utf8 c.args.character) c.args.text.now c.after_character.result c.after_character.ensures)
