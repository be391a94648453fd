use Rattle.ttree_source.proofs.Interpreted.{interprets_no_text, interprets_text}
use Rattle.ttree_source.proofs.run.run_line.Goals as goal

pub returns-in_default-clause-line : goal.returns-in_default-clause-line
returns-in_default-clause-line g c =
    interprets_no_text g.C.Calls.answers g.C.Calls.flushes g.S.Source.takes c.args.line.now c.args.source.now c.args.receiver.now c.in_default.ensures

pub returns-clause-line : goal.returns-clause-line
returns-clause-line g c =
    let made = rw (c.in-Ok.ensures.0) at c.run_text.ensures.text in
    interprets_text g.C.Calls.answers g.C.Calls.flushes g.S.Source.takes c.args.line.now c.args.source.now c.run_text.new.source c.run_text.result c.args.receiver.now c.run_text.new.receiver
    c.in-Ok.ensures.1 made
