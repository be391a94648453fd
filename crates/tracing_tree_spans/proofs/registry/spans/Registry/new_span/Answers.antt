use Rattle.std.proofs.Common.{◌<◌, subst, sym, ap, ◌∙◌, refl, arith}
use Rattle.tracing_tree_spans.specs.Registry.Forest.{Forest, named_parent, any_unless_live}
use Rattle.tracing_tree_spans.specs.Registry.Nodes.{spans_of, AreBelow, IsTied}
use Rattle.tracing_tree_spans.specs.Registry.Registered.{IsKept, alone}
use Rattle.tracing_tree_spans.proofs.RegistryLaws.{kept-new, forest-new}
use Rattle.tracing_tree_spans.proofs.NewestLaws.{newest-new, undone-new}
use Rattle.tracing_tree_spans.proofs.Ties.{tied-kept}
use Rattle.tracing_tree_spans.proofs.Registers.{below-next, spans-new, tied-new}
use Rattle.tracing_tree_spans.proofs.registry.spans.Registry.new_span.Goals as goal

pub push_below-requires-clause-below : goal.push_below-requires-clause-below
push_below-requires-clause-below c =
    subst (AreBelow c.in_ok-id.id.0) (sym c.reserve.ensures)
    (below-next c.self.inside.nodes c.self.inside.next c.in_ok-id.id c.self.invariant.0 c.in_ok-id.ensures.ok_part)

-- no memory: the stored paths are unchanged
pub invariant_of-self-in_err-path : goal.invariant_of-self-in_err-path
invariant_of-self-in_err-path c = (
  subst (λ nodes. IsKept (spans_of nodes) c.self.inside.next) (sym c.reserve.ensures) c.self.invariant.0,
  tied-kept c.self.inside.branches.branches.items _ _ c.add_path.ensures.paths (subst (IsTied c.self.inside.branches.branches.items) (sym c.reserve.ensures) c.self.invariant.1),
)

pub invariant_of-self-in_err-push_below : goal.invariant_of-self-in_err-push_below
invariant_of-self-in_err-push_below c =
    let same = c.in_err-push_below.ensures.err ∙ c.reserve.ensures in (
      subst (λ nodes. IsKept (spans_of nodes) c.self.inside.next) (sym same) c.self.invariant.0,
      tied-kept c.self.inside.branches.branches.items _ _ c.add_path.ensures.paths (subst (IsTied c.self.inside.branches.branches.items) (sym same) c.self.invariant.1),
    )

pub invariant_of-self-2 : goal.invariant_of-self-2
invariant_of-self-2 c =
    let nodes = c.reserve.new.self in
    let kept : IsKept (spans_of nodes) c.self.inside.next = subst (λ nodes. IsKept (spans_of nodes) c.self.inside.next) (sym c.reserve.ensures) c.self.invariant.0 in
    let tied : IsTied c.self.inside.branches.branches.items nodes = subst (IsTied c.self.inside.branches.branches.items) (sym c.reserve.ensures) c.self.invariant.1 in
    let live = ap (λ nodes. any_unless_live (alone (spans_of nodes)) c.named-parent.result) c.reserve.ensures ∙ sym c.in_default.ensures in
    let range : c.in_ok-id.id.0 < 18_446_744_073_709_551_616 = omega arith in
    let spans = spans-new nodes nodes _ _ _ refl c.in_ok-push_below.ensures.ok in (
      kept-new (spans_of nodes) _ _ _ c.in_ok-id.id _ kept c.in_ok-id.ensures.ok_part refl range live spans c.following-self-inside.ensures,
      tied-new _ nodes _ _ c.in_ok-id.id _ kept (tied-kept c.self.inside.branches.branches.items _ nodes c.add_path.ensures.paths tied) c.in_ok-id.ensures.ok_part refl live
          c.in_ok-path.ensures.path refl c.in_ok-push_below.ensures.ok,
    )

pub returns-clause-made : goal.returns-clause-made
returns-clause-made c =
    let found = sym (rw c.named-parent.ensures at c.in_default.ensures) in
    let spans = spans-new c.self.inside.nodes c.reserve.new.self _ _ _ c.reserve.ensures c.in_ok-push_below.ensures.ok in
    let next = c.in_ok-id.ensures.ok_part in (
      ap (λ (forest : Forest). any_unless_live forest (named_parent c.args.attributes.parent c.args.context.now.current)) (sym c.self.view_is) ∙ found,
      ap (λ (forest : Forest). forest.next) (sym c.self.view_is) ∙ next,
      rw c.named-parent.ensures at (forest-new (spans_of c.self.inside.nodes) _ _ _ _ _ c.self.view_is spans c.following-self-inside.ensures),
    )

pub returns-clause-newest : goal.returns-clause-newest
returns-clause-newest c =
    let spans = spans-new c.self.inside.nodes c.reserve.new.self _ _ _ c.reserve.ensures c.in_ok-push_below.ensures.ok in
    newest-new (spans_of c.self.inside.nodes) _ c.in_ok-id.id _ _ _ c.self.invariant.0 c.in_ok-id.ensures.ok_part refl refl (sym c.in_default.ensures) refl
    (forest-new (spans_of c.self.inside.nodes) _ c.self.inside.next _ _ _ refl spans c.following-self-inside.ensures)

pub returns-clause-undone : goal.returns-clause-undone
returns-clause-undone c =
    let spans = spans-new c.self.inside.nodes c.reserve.new.self _ _ _ c.reserve.ensures c.in_ok-push_below.ensures.ok in
    undone-new (spans_of c.self.inside.nodes) _ c.in_ok-id.id _ c.args.self.now _ c.self.invariant.0 c.in_ok-id.ensures.ok_part refl c.self.view_is
    (forest-new (spans_of c.self.inside.nodes) _ _ _ _ _ c.self.view_is spans c.following-self-inside.ensures)
