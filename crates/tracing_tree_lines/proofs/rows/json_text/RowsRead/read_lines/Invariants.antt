use Rattle.std.proofs.Common.{◌≡◌, ℕ, List, Option, Some}
use Rattle.tracing_tree_lines.specs.Rows.JsonSteps.{SoFar}
use Rattle.tracing_tree_lines.proofs.RowsRead.JsonLines.{IsAtLine}
use Rattle.tracing_tree_lines.proofs.rows.json_text.RowsRead.read_lines.Given as goal

-- whatever the input is, the lines before this one were read
abbrev pub invariant-loop-number : goal.invariant-loop-number
invariant-loop-number g l =
    (amount : ℕ) (text rest : List ℕ) (start : Option (List ℕ)) → g.B.Read.remaining l.fn.input ≡ Some rest →
    SoFar amount text start 0 rest l.fn.self (g.W.Write.contents l.fn.writer) →
    IsAtLine amount text start l.number (g.B.Read.remaining l.input) l.self (g.W.Write.contents l.writer)
