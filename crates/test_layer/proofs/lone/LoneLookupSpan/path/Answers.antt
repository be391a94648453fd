use Rattle.test_layer.proofs.Roots.{lone_forest}
use Rattle.test_layer.proofs.lone.LoneLookupSpan.path.Goals as goal

pub returns-in_err-push-clause-formed : goal.returns-in_err-push-clause-formed
returns-in_err-push-clause-formed c = lone_forest c.args.self.now.name c.args.self.now.target c.args.self.now.«data»

pub returns-clause-formed : goal.returns-clause-formed
returns-clause-formed c = lone_forest c.args.self.now.name c.args.self.now.target c.args.self.now.«data»
