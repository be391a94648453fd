use Rattle.std.proofs.Common.{rules, ap, ◌∙◌}
use Rattle.std.proofs.lemmas.Iterator.{YieldsList-from_slice, items_from_collect}
use Rattle.std.proofs.lemmas.Iterator.Consumers.{YieldsList-from_copied}
use Rattle.std.specs.Slice.Iter.{iter_rest}
use Rattle.tracing_tree_layer.proofs.DifferenceYields.{YieldsList-from_yields}
use Rattle.test_layer.proofs.difference.differences_of_slices.Goals as goal

pub returns : goal.returns
returns c =
    let left = YieldsList-from_copied (YieldsList-from_slice c.args.left.now (ap iter_rest c.copied-left.ensures.source ∙ c.iter.ensures.rest)) in
    let right = YieldsList-from_copied (YieldsList-from_slice c.args.right.now (ap iter_rest c.copied.ensures.source ∙ c.iter-2.ensures.rest)) in
    items_from_collect _ c.collect.ensures.ran (YieldsList-from_yields (λ x. x) c.new.ensures.yields (λ x k h. search rules) left right)
