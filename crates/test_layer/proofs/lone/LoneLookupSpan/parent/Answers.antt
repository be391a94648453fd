use Rattle.test_layer.proofs.Roots.{lone_forest}
use Rattle.test_layer.proofs.lone.LoneLookupSpan.parent.Goals as goal

pub returns-clause-formed : goal.returns-clause-formed
returns-clause-formed c = lone_forest c.args.self.now.name c.args.self.now.target c.args.self.now.«data»
