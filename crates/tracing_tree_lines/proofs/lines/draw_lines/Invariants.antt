use Rattle.std.proofs.Common.{◌+◌, ◌-◌, ◌≤◌}
use Rattle.tracing_tree_layer.specs.Layer.Layers.{seen}
use Rattle.tracing_tree_lines.specs.Lines.Runs.{last_number}
use Rattle.tracing_tree_lines.specs.Lines.SoFar.{GoesOver}
use Rattle.tracing_tree_lines.proofs.lines.draw_lines.Given as goal

-- each line before the next, from the second on, has at most one accepted call, and the run so far
-- is that of these lines
abbrev pub invariant-loop-run : goal.invariant-loop-run
invariant-loop-run g l = record {
  room : (l.run.accepted + 2 ≤ l.run.number) × (l.run.number ≤ last_number);
  over : GoesOver (seen g.FT.FormatTime g.W.Output) (g.L.LineInput.remaining l.fn.lines) (g.L.LineInput.remaining l.lines)
      l.run.accepted l.run.number l.fn.layered l.layered;
}

-- each turn judges a line
abbrev pub decreases-loop-run : goal.decreases-loop-run
decreases-loop-run g l = last_number - l.run.number
