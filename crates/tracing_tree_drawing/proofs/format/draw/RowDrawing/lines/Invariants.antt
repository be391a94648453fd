use Rattle.std.proofs.Common.{◌++◌, string_bytes, length}
use denote.Text.{Utf8}
use denote.Shadow.{shadow}
use Rattle.tracing_tree_drawing.specs.Format.Frames.{pushed_text, row_of}
use Rattle.tracing_tree_drawing.specs.Format.Picture.{picture}
use Rattle.tracing_tree_base.specs.Extended.{IsExtended}
use Rattle.tracing_tree_drawing.proofs.LineLaws.{IsDrawing}
use Rattle.tracing_tree_drawing.proofs.format.draw.RowDrawing.lines.Given as goal

abbrev pub invariant-loop-line : goal.invariant-loop-line
invariant-loop-line l =
    let settings = l.self.config.now in
    let row = row_of l.self l.block in
    shadow (Utf8 l.rest)
    × IsDrawing settings row (string_bytes l.initial.out ++ picture settings row) (string_bytes l.out) l.rest (pushed_text l.frame)
    × IsExtended (string_bytes l.initial.out) (string_bytes l.out)

abbrev pub decreases-loop-line : goal.decreases-loop-line
decreases-loop-line l = length l.rest
