use Rattle.test_layer.proofs.Roots.{turned_forest}
use Rattle.test_layer.proofs.turned.TurnedLookupSpan.kept_path.Goals as goal

pub returns-clause-formed : goal.returns-clause-formed
returns-clause-formed c = turned_forest c.args.self.now.name c.args.self.now.target c.args.self.now.child c.args.self.now.root
