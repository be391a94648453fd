use Rattle.std.proofs.Common.{refl, rules}
use Rattle.std.proofs.iter.Next.{says_at}
use Rattle.tracing_tree_layer.specs.Difference.Steps.{difference_compare}
use Rattle.tracing_tree_layer.proofs.DifferenceLemmas.{Differs-from_ne}
use Rattle.tracing_tree_layer.proofs.difference.DifferenceIter.differs.Goals as goal

pub returns-in-Some : goal.returns-in-Some
returns-in-Some g c =
    Differs-from_ne g.C.Fn g.U.PartialEq.eq (difference_compare c.args.self.now) {k = c.compare.result} {m = c.compare-in-Some.result} _ c.in-Some.is
    (says_at g.C.Fn c.compare.ensures refl) (says_at g.C.Fn c.compare-in-Some.ensures refl) (search rules)
