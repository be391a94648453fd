use Rattle.tracing_tree_base.proofs.Extended.{extended_push, extended_twice}
use Rattle.tracing_tree_drawing.proofs.format.draw.RowDrawing.line.Goals as goal

pub returns-clause-extended : goal.returns-clause-extended
returns-clause-extended c =
    extended_twice _ _ _ (extended_twice _ _ _ c.push_prefix.ensures.extended c.push.ensures.extended)
    (extended_twice _ _ _ c.push_text.ensures.extended (extended_push _ _ _ _ c.push-2.ensures.bytes))
