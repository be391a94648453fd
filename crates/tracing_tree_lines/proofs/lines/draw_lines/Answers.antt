use Rattle.std.proofs.Common.{◌≡◌, arith}
use Rattle.tracing_tree_layer.specs.Layer.Layers.{seen}
use Rattle.tracing_tree_lines.proofs.LineRuns.{starts_over, ends_unjudged}
use Rattle.tracing_tree_lines.proofs.lines.draw_lines.Goals as goal

pub loop-run-init : goal.loop-run-init
loop-run-init g c = record {
  room = (omega arith, omega arith);
  over = starts_over (seen g.FT.FormatTime g.W.Output) (g.L.LineInput.remaining c.args.lines.now) c.args.layered.now;
}

pub returns : goal.returns
returns g c =
    let last : c.loop-run.run.number ≡ 18_446_744_073_709_551_615 = omega (arith, c.loop-run.invariant.room.1) in
    let remaining = g.L.LineInput.remaining in
    ends_unjudged (seen g.FT.FormatTime g.W.Output) (remaining c.args.lines.now) (remaining c.loop-run.lines) c.loop-run.run.accepted c.args.layered.now c.loop-run.layered
    (rw last at c.loop-run.invariant.over)
