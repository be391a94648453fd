use Rattle.std.proofs.Common.{refl, rules}
use Rattle.tracing_tree_layer.proofs.DifferenceRunLaws.{DifferenceRuns-from_parts}
use Rattle.tracing_tree_layer.proofs.DifferenceYields.{AlwaysYields-differing}
use Rattle.tracing_tree_layer.proofs.difference.DifferenceIter.new.Goals as goal

pub returns-clause-runs : goal.returns-clause-runs
returns-clause-runs g c =
    DifferenceRuns-from_parts g.L.Iterator.next_gives g.R.Iterator.next_gives g.C.Fn g.U.PartialEq.eq c.args.compare c.args.left c.args.right _
    (search rules, search rules) refl refl

pub returns-clause-yields : goal.returns-clause-yields
returns-clause-yields g c = record {
  runs = λ key xs ys known a b.
      AlwaysYields-differing g.L.Iterator.next_gives g.R.Iterator.next_gives g.C.Fn g.U.PartialEq.eq (λ x. x) key c.args.compare known
      c.args.left c.args.right _ xs ys (search rules, search rules) refl refl a b;
}
