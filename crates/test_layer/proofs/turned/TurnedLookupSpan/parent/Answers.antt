use Rattle.test_layer.proofs.Roots.{turned_forest}
use Rattle.test_layer.proofs.turned.TurnedLookupSpan.parent.Goals as goal

pub returns-then-id-eq3-clause-formed : goal.returns-then-id-eq3-clause-formed
returns-then-id-eq3-clause-formed c = turned_forest c.args.self.now.name c.args.self.now.target c.args.self.now.child c.args.self.now.root

pub returns-else-id-eq3-clause-formed : goal.returns-else-id-eq3-clause-formed
returns-else-id-eq3-clause-formed c = turned_forest c.args.self.now.name c.args.self.now.target c.args.self.now.child c.args.self.now.root
