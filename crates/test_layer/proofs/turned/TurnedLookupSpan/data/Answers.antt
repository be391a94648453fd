use Rattle.test_layer.proofs.Roots.{turned_forest}
use Rattle.test_layer.proofs.turned.TurnedLookupSpan.data.Goals as goal

pub returns-in-3-clause-formed : goal.returns-in-3-clause-formed
returns-in-3-clause-formed c = turned_forest c.args.self.now.name c.args.self.now.target c.args.self.now.child c.args.self.now.root

pub returns-in-7-clause-formed : goal.returns-in-7-clause-formed
returns-in-7-clause-formed c = turned_forest c.args.self.now.name c.args.self.now.target c.args.self.now.child c.args.self.now.root

pub returns-in_default-clause-formed : goal.returns-in_default-clause-formed
returns-in_default-clause-formed c = turned_forest c.args.self.now.name c.args.self.now.target c.args.self.now.child c.args.self.now.root
