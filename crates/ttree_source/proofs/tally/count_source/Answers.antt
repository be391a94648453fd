use Rattle.ttree_source.proofs.Counted.{run_counts}
use Rattle.ttree_source.proofs.tally.count_source.Goals as goal

pub returns : goal.returns
returns g c =
    run_counts g.S.Source.takes g.S.Source.ends g.S.Source.ended (g.L.LineInput.remaining c.args.lines.now) c.args.source.now c.run_source-run.new.source
    c.run_source-run.result c.new-tally.result c.run_source-run.new.receiver c.new-tally.ensures c.run_source-run.ensures.run
