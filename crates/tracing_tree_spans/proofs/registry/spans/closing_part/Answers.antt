use Rattle.std.proofs.Common.{◌≡◌, [], Some, sym, ◌∙◌}
use Rattle.tracing_tree_spans.specs.Registry.Registered.{alone, going_after}
use Rattle.tracing_tree_spans.specs.Registry.Nodes.{spans_of}
use Rattle.tracing_tree_spans.proofs.GrownForests.{as_forest}
use Rattle.tracing_tree_spans.proofs.ClosingWalk.{way_up, path-falls}
use Rattle.tracing_tree_spans.proofs.ClosingParts.{kept-found, part-begins, part-stays, part-more, part-cut, part-empty, rest-root, rest-missing, rest-kept}
use Rattle.tracing_tree_spans.proofs.registry.spans.closing_part.Goals as goal
use Rattle.tracing_tree_spans.proofs.registry.spans.closing_part.Goals.{in-Some+in_default-get, in-Some+in-Some-get+then-not-is_kept_by_a_child, in_default}

-- others keep the span
pub returns-then-not-is_kept_by_a_handle : goal.returns-then-not-is_kept_by_a_handle
returns-then-not-is_kept_by_a_handle c =
    let node = c.args.node.now in
    let h = kept-found c.args.nodes.now node.span.id node c.requires.counted c.requires.there in
    part-empty c.args.path.now _
    (part-stays _ _ node c.requires.kept h c.requires.held (sym c.is_kept_by_a_handle.ensures ∙ c.if-not-is_kept_by_a_handle.true))

pub loop-next-init : goal.loop-next-init
loop-next-init c =
    let node = c.args.node.now in
    let h = kept-found c.args.nodes.now node.span.id node c.requires.counted c.requires.there in
    rw c.parent-next.ensures
    (part-begins _ _ node c.args.path.now c.requires.kept h c.requires.path c.requires.held (sym c.is_kept_by_a_handle.ensures ∙ c.if-not-is_kept_by_a_handle.false))

pub loop-next-smaller : goal.loop-next-smaller
loop-next-smaller c =
    let h = kept-found c.args.nodes.now c.in-Some.id c.in-Some-get.parent.now c.requires.counted (sym c.in-Some-get.ensures) in
    rw (c.parent-next-in-Some.ensures, c.in-Some.is) (path-falls (alone (spans_of c.args.nodes.now)) (as_forest (alone (spans_of c.args.nodes.now)) c.requires.kept.0) _ _ h.found)

pub loop-next-preserved : goal.loop-next-preserved
loop-next-preserved c =
    let node = c.in-Some-get.parent.now in
    let h = kept-found c.args.nodes.now c.in-Some.id node c.requires.counted (sym c.in-Some-get.ensures) in
    rw c.parent-next-in-Some.ensures
    (part-more _ _ c.in-Some.id node _ _ c.loop-next.next c.requires.kept h c.in-Some.is (sym c.is_kept_by_a_child.ensures ∙ c.if-not-is_kept_by_a_child.false)
    c.loop-next.invariant)

pub returns : goal.returns
returns c =
    let node = c.args.node.now in
    let closed = c.loop-next.invariant in
    let ends : going_after (alone (spans_of c.args.nodes.now)) (Some closed.last) (way_up (alone (spans_of c.args.nodes.now)) c.loop-next.next) ≡ [] =
    elim c.match-next.branch [
      | in-Some+in_default-get w ↦ rest-missing c.args.nodes.now closed.last w.in-Some.id _ c.requires.kept (sym w.in_default-get.ensures) w.in-Some.is
      | in-Some+in-Some-get+then-not-is_kept_by_a_child w ↦
          let next = w.in-Some-get.parent.now in
          let there = kept-found c.args.nodes.now w.in-Some.id next c.requires.counted (sym w.in-Some-get.ensures) in
          rest-kept c.args.nodes.now node.span.id w.in-Some.id next _ _ _ c.requires.kept there w.in-Some.is closed
          (sym w.is_kept_by_a_child.ensures ∙ w.if-not-is_kept_by_a_child.true)
      | in_default w ↦ rest-root (spans_of c.args.nodes.now) closed.last _ w.in_default.is
    ] in
    part-cut c.args.nodes.now node.span.id c.args.path.now c.loop-next.count c.loop-next.next c.requires.kept c.requires.path closed ends
