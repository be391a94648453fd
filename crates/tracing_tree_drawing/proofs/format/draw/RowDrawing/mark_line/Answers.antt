use Rattle.std.proofs.Common.{◌≡◌, ◌*◌, refl, append_assoc, rules}
use Rattle.std.specs.Char.{encode_utf8}
use Rattle.tracing_tree_drawing.specs.Format.Picture.{wrapped_level}
use Rattle.tracing_tree_base.proofs.Extended.{extended_push, extended_twice}
use Rattle.tracing_tree_drawing.proofs.format.draw.RowDrawing.mark_line.Goals as goal

pub returns-clause-ok : goal.returns-clause-ok
unfolding encode_utf8
returns-clause-ok c =
    let self = c.args.self.now in
    let settings = self.config.now in
    let width : wrapped_level settings self.level * settings.indent_amount ≡ c.wrapped_level.result * c.indent_amount.result =
    rw (c.wrapped_level.ensures.value, c.indent_amount.ensures) refl in
    rw (c.requires.last, width) (search (rules, append_assoc))

pub returns-clause-extended : goal.returns-clause-extended
returns-clause-extended c =
    extended_twice _ _ _ (extended_twice _ _ _ c.push_prefix.ensures.extended c.push_repeated.ensures.extended)
    (extended_twice _ _ _ (extended_push _ _ _ _ c.push.ensures.bytes) (extended_push _ _ _ _ c.push_str.ensures.bytes))
