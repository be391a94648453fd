use Rattle.ttree_source.proofs.Drawn.{each_draws}
use Rattle.ttree_source.proofs.run.draw_calls.Goals as goal

pub returns : goal.returns
returns g c = each_draws g.FT.FormatTime g.W.Output c.args.calls.items c.make.result c.args.layered.now c.make.new.receiver c.make.ensures
