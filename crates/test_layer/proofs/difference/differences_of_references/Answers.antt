use Rattle.std.proofs.Common.{rules, ◌≡◌, sym, subst, List, Option}
use Rattle.std.proofs.lemmas.Iterator.{YieldsList, YieldsList-from_slice, items_from_collect}
use Rattle.std.proofs.lemmas.Iterator.Consumers.{YieldsList-from_copied}
use Rattle.tracing_tree_layer.proofs.DifferenceYields.{YieldsList-from_difference}
use Rattle.test_layer.proofs.difference.differences_of_references.Goals as goal

YieldsList-same : {S A B : Type 0} {steps : S → Option A → S → Type 0} {v : A → B} {s t : S} {ys : List B} → t ≡ s → YieldsList steps v s ys → YieldsList steps v t ys
YieldsList-same {steps = steps} {v = v} {ys = ys} e given = subst (λ u. YieldsList steps v u ys) (sym e) given

pub returns : goal.returns
returns c =
    let left = YieldsList-from_slice c.args.left.now c.iter.ensures.rest in
    let right = YieldsList-from_slice c.args.right.now c.iter-2.ensures.rest in
    let found = YieldsList-from_difference (λ x. x) c.new.ensures.yields c.new.ensures.left c.new.ensures.right c.new.ensures.compare (λ x k h. search rules) left right in
    items_from_collect _ c.collect.ensures.ran (YieldsList-from_copied (YieldsList-same c.copied.ensures.source found))
