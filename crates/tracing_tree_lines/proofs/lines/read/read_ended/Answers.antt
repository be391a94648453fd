use Rattle.tracing_tree_lines.proofs.LineEnds.{reads_line_end, reads_input_end}
use Rattle.tracing_tree_lines.proofs.lines.read.read_ended.Goals as goal

pub returns-in-Line : goal.returns-in-Line
returns-in-Line g c =
    let part = rw c.in-Line.is at c.in_ok-read_part.ensures in
    reads_line_end _ _ _ _ _ c.loop-part.invariant part

pub returns-in-Input : goal.returns-in-Input
returns-in-Input g c =
    let part = rw c.in-Input.is at c.in_ok-read_part.ensures in
    reads_input_end _ _ _ _ _ c.loop-part.invariant part.0 part.1
