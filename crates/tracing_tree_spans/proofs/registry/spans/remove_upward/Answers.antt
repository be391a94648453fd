use Rattle.std.proofs.Common.{◌≡◌, ◌+◌, ◌-◌, ◌<◌, None, Some, length, arith, ap, ◌∙◌, subst}
use Rattle.tracing_tree_spans.specs.Registry.Nodes.{spans_of}
use Rattle.tracing_tree_spans.proofs.ClosingSteps.{rest_of}
use Rattle.tracing_tree_spans.proofs.ClosingParts.{HasRemoved, next-goes, removed-more, removed-all}
use Rattle.tracing_tree_spans.proofs.registry.spans.remove_upward.Goals as goal

pub remove_leaf-next-requires-clause-kept : goal.remove_leaf-next-requires-clause-kept
remove_leaf-next-requires-clause-kept c = c.loop.invariant.removed.kept None c.requires.kept

pub remove_leaf-next-requires-clause-childless : goal.remove_leaf-next-requires-clause-childless
remove_leaf-next-requires-clause-childless c =
    let now = spans_of c.loop.nodes in
    let n = c.loop.invariant.removed.counted ∙ ap (λ o. length (rest_of now o)) c.in-Some.is in
    let some : 0 < length (rest_of now (Some c.in-Some.id)) = omega (arith, n, c.loop-test.true) in
    (next-goes now c.in-Some.id (c.loop.invariant.removed.kept None c.requires.kept) some).childless

pub loop-preserved : goal.loop-preserved
loop-preserved c =
    let old = spans_of c.args.nodes.now in
    let now = spans_of c.loop.nodes in
    let n = c.loop.invariant.removed.counted ∙ ap (λ o. length (rest_of now o)) c.in-Some.is in
    let some : 0 < length (rest_of now (Some c.in-Some.id)) = omega (arith, n, c.loop-test.true) in
    let kept = c.loop.invariant.removed.kept None c.requires.kept in
    let next = next-goes now c.in-Some.id kept some in
    let fewer : (c.args.count - c.loop.counter) - 1 ≡ c.args.count - (c.loop.counter + 1) = omega arith in
    record {
      removed = subst (HasRemoved old (spans_of c.remove_leaf-next.new.nodes) (Some c.args.id) c.remove_leaf-next.result) fewer
          (removed-more old now _ (Some c.args.id) c.loop.next c.remove_leaf-next.result c.in-Some.id _ kept next c.in-Some.is
          c.remove_leaf-next.ensures.spans c.remove_leaf-next.ensures.parent c.loop.invariant.removed);
      tied = c.remove_leaf-next.ensures.tied;
    }

pub returns-after-loop-clause-spans : goal.returns-after-loop-clause-spans
returns-after-loop-clause-spans c =
    let old = spans_of c.args.nodes.now in
    let now = spans_of c.loop.nodes in
    let none : c.args.count - c.loop.counter ≡ 0 = omega (arith, c.loop-test.false) in
    removed-all old now (Some c.args.id) c.loop.next (subst (HasRemoved old now (Some c.args.id) c.loop.next) none c.loop.invariant.removed)
