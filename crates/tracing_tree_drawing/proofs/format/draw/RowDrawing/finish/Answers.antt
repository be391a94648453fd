use Rattle.std.proofs.Common.{[], take, string_bytes}
use Rattle.std.specs.Char.{encode_utf8}
use Rattle.tracing_tree_drawing.specs.Format.Frames.{row_of}
use Rattle.tracing_tree_base.proofs.Extended.{extended_push, extended_twice}
use Rattle.tracing_tree_drawing.proofs.LineLaws.{extended-cut, row-ended}
use Rattle.tracing_tree_drawing.proofs.format.draw.RowDrawing.finish.Goals as goal

pub returns-in_err-push-clause-extended : goal.returns-in_err-push-clause-extended
returns-in_err-push-clause-extended c =
    extended_twice _ _ _ (extended-cut c.args.place.start (string_bytes c.args.out.now)) (extended_push _ _ _ _ c.push.ensures.bytes)

pub returns-then-is_line-clause-ok : goal.returns-then-is_line-clause-ok
unfolding encode_utf8
returns-then-is_line-clause-ok c =
    let self = c.args.self.now in
    let settings = self.config.now in
    let text = string_bytes c.args.out.now in
    row-ended c.mark.result settings (row_of self []) (take c.args.place.start text) text (string_bytes c.push.new.self)
    (string_bytes c.mark.new.out) c.args.place.block c.requires.begun
    (rw (c.range_from.ensures.value, c.as_str.ensures.value) at c.is_line.ensures c.if-is_line.true)
    c.in_ok-push.ensures.bytes
    (rw c.corner_after.ensures at c.mark.ensures.ok)

pub returns-then-is_line-clause-extended : goal.returns-then-is_line-clause-extended
returns-then-is_line-clause-extended c =
    extended_twice _ _ _ (extended-cut c.args.place.start (string_bytes c.args.out.now))
    (extended_twice _ _ _ (extended_push _ _ _ _ c.push.ensures.bytes) c.mark.ensures.extended)
