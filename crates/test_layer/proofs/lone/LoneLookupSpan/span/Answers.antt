use Rattle.test_layer.proofs.Roots.{lone_forest}
use Rattle.test_layer.proofs.lone.LoneLookupSpan.span.Goals as goal

pub returns-then-id-ne1-clause-formed : goal.returns-then-id-ne1-clause-formed
returns-then-id-ne1-clause-formed c = lone_forest c.args.self.now.name c.args.self.now.target c.args.self.now.«data»

pub returns-clause-formed : goal.returns-clause-formed
returns-clause-formed c = lone_forest c.args.self.now.name c.args.self.now.target c.args.self.now.«data»
