use Rattle.std.proofs.Common.{◌≡◌, ◌+◌, ◌-◌, ◌<◌, ◌≤◌, length, Ok, IfSome}
use Rattle.std.specs.Prelude.{IsUtf8}
use Rattle.std.specs.Str.{IsCharBoundary}
use Rattle.tracing_tree_layer.specs.Layer.Layers.{seen}
use Rattle.tracing_tree_lines.specs.Lines.Runs.{last_number}
use Rattle.tracing_tree_lines.specs.Lines.SoFar.{RunsHeld}
use Rattle.tracing_tree_lines.proofs.lines.run_held.Given as goal

-- the lines before this place were judged, and the string can be cut there
abbrev pub invariant-loop-length : goal.invariant-loop-length
invariant-loop-length g l = record {
  room : (l.run.accepted + 2 ≤ l.run.number) × (l.run.number ≤ last_number);
  within : l.start ≤ length l.held;
  cut : IfSome l.whole (λ text. (text.now ≡ l.held) × IsUtf8 l.held × IsCharBoundary l.held l.start);
  onward : 0 < l.start → l.fn.run.number < l.run.number;
  none : l.start ≡ 0 → l.run.number ≡ l.fn.run.number;
  change : RunsHeld (seen g.FT.FormatTime g.W.Output) l.held l.fn.run l.run (Ok l.start) l.fn.layered l.layered;
}

abbrev pub decreases-loop-length : goal.decreases-loop-length
decreases-loop-length g l = length l.held - l.start
