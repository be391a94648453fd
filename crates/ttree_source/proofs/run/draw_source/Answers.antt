use Rattle.ttree_source.proofs.Drawn.{run_draws}
use Rattle.ttree_source.proofs.run.draw_source.Goals as goal

pub returns-clause-run : goal.returns-clause-run
returns-clause-run g c =
    run_draws g.FT.FormatTime g.W.Output g.S.Source.takes g.S.Source.ends g.S.Source.ended (g.L.LineInput.remaining c.args.lines.now)
    c.args.source.now c.run_source.new.source c.run_source.result c.args.layered.now c.run_source.new.receiver c.run_source.ensures.run
