use Rattle.std.proofs.Common.{rules, ap, ap₂, subst, ◌≡◌, ◌∙◌, List, IfOk}
use Rattle.std.proofs.lemmas.Iterator.{YieldsList-from_slice, items_from_collect}
use Rattle.std.proofs.lemmas.Iterator.Consumers.{YieldsList-from_copied}
use Rattle.std.specs.Slice.Iter.{iter_rest}
use Rattle.tracing_tree_spans.specs.Registry.Ids.{same_id}
use Rattle.tracing_tree_base.specs.declared.context.Id.{Id}
use Rattle.tracing_tree_layer.specs.Difference.Items.{differing}
use Rattle.tracing_tree_layer.proofs.DifferenceYields.{YieldsList-from_yields}
use Rattle.tracing_tree_layer.proofs.PathPairs.{differing-fresh_ids}
use Rattle.tracing_tree_laws.proofs.difference.fresh_spans.Goals as goal

pub returns-clause-differ : goal.returns-clause-differ
returns-clause-differ c =
    let left = YieldsList-from_copied (YieldsList-from_slice c.args.old.now (ap iter_rest c.copied-old.ensures.source ∙ c.iter.ensures.rest)) in
    let right = YieldsList-from_copied (YieldsList-from_slice c.args.new.now (ap iter_rest c.copied.ensures.source ∙ c.iter-2.ensures.rest)) in
    items_from_collect _ c.collect.ensures.ran (YieldsList-from_yields (λ x. x) c.new.ensures.yields (λ x k h. search rules) left right)

pub returns-clause-fresh : goal.returns-clause-fresh
returns-clause-fresh c = λ forest last i formed old new.
    let all : differing same_id c.args.old.now c.args.new.now ≡ _ = ap₂ (differing same_id) old new ∙ differing-fresh_ids forest formed last i in
    subst (λ (ids : List Id). IfOk c.collect.result (λ found. found.items ≡ ids)) all (returns-clause-differ c)
