use Rattle.std.proofs.Common.{◌==◌, ◌∙◌, ℕ, ap}
use Rattle.tracing_tree_lines.proofs.LineEnds.{takes_first, takes_last}
use Rattle.tracing_tree_lines.proofs.lines.read.read_line.Goals as goal

pub returns-then-branch : goal.returns-then-branch
returns-then-branch g c = takes_first _ _ _ (rw c.if-branch.true at c.in_ok-read_ended.ensures)

pub returns : goal.returns
returns g c =
    takes_last _ _ _ c.is_empty.result (rw c.if-branch.false at c.in_ok-read_ended.ensures)
    (c.is_empty.ensures ∙ ap (λ (n : ℕ). n == 0) c.read_ended.new.line.ok.0)
