use Rattle.std.proofs.Common.{rules}
use Rattle.tracing_tree_layer.specs.Layer.Layers.{seen}
use Rattle.tracing_tree_laws.proofs.TapRuns.{counted_after_run}
use Rattle.tracing_tree_laws.proofs.results.count_results.Goals as goal

pub returns-in-None : goal.returns-in-None
returns-in-None g c =
    counted_after_run (g.L.LineInput.remaining c.args.lines.now) c.args.next c.args.moment _ _ c.draw_source-run.result
    (seen g.FT.FormatTime g.W.Output c.args.layered.now) (seen g.FT.FormatTime g.W.Output c.draw_source-run.new.layered) c.in-Ok.ensures c.in-None.is
    c.draw_source-run.ensures.run.changed c.tally.result (search rules)
