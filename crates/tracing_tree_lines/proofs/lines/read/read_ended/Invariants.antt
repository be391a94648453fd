use Rattle.tracing_tree_lines.proofs.LineEnds.{IsWithinLine}
use Rattle.tracing_tree_lines.proofs.lines.read.read_ended.Given as goal

-- what was taken so far is what the line holds, without a line end
abbrev pub invariant-loop-part : goal.invariant-loop-part
invariant-loop-part g l = IsWithinLine (g.B.Read.remaining l.fn.reader) (g.B.Read.remaining l.reader) l.line.items
