use Rattle.test_layer.proofs.Roots.{turned_forest}
use Rattle.test_layer.proofs.turned.TurnedLookupSpan.path.Goals as goal

pub returns-in_err-push-clause-formed : goal.returns-in_err-push-clause-formed
returns-in_err-push-clause-formed c = turned_forest c.args.self.now.name c.args.self.now.target c.args.self.now.child c.args.self.now.root

pub returns-in_err-push-2-clause-formed : goal.returns-in_err-push-2-clause-formed
returns-in_err-push-2-clause-formed c = turned_forest c.args.self.now.name c.args.self.now.target c.args.self.now.child c.args.self.now.root

pub returns-in_err-push-3-clause-formed : goal.returns-in_err-push-3-clause-formed
returns-in_err-push-3-clause-formed c = turned_forest c.args.self.now.name c.args.self.now.target c.args.self.now.child c.args.self.now.root

pub returns-clause-formed : goal.returns-clause-formed
returns-clause-formed c = turned_forest c.args.self.now.name c.args.self.now.target c.args.self.now.child c.args.self.now.root
