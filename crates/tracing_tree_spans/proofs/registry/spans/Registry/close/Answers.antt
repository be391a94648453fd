use Rattle.std.proofs.Common.{◌==◌, not, length, refl, sym, ap, ◌∙◌}
use Rattle.tracing_tree_spans.specs.Registry.Spans.{handle_less}
use Rattle.tracing_tree_spans.specs.Registry.Forest.{Forest, going_up}
use Rattle.tracing_tree_spans.proofs.ClosingSteps.{one_less, closed, kept-none}
use Rattle.tracing_tree_spans.proofs.Registers.{handle-left, kept-update, tied-update, forest-update, less-ties, more-none}
use Rattle.tracing_tree_spans.proofs.registry.spans.Registry.close.Goals as goal

pub take_handle-requires : goal.take_handle-requires
take_handle-requires c = handle-left c.self.inside.nodes c.self.inside.next _ c.args.id c.self.view_is c.requires.held

pub remove_upward-requires-clause-kept : goal.remove_upward-requires-clause-kept
remove_upward-requires-clause-kept c =
    kept-none _ c.self.inside.next (kept-update handle_less one_less less-ties c.self.inside.nodes _ _ c.args.id c.self.invariant.0 c.take_handle.ensures)

pub remove_upward-requires-clause-tied : goal.remove_upward-requires-clause-tied
remove_upward-requires-clause-tied c = tied-update c.self.inside.branches.branches.items handle_less one_less less-ties c.self.inside.nodes _ c.args.id c.self.invariant.1 c.take_handle.ensures

pub remove_upward-requires-clause-all : goal.remove_upward-requires-clause-all
remove_upward-requires-clause-all c =
    let less = forest-update handle_less one_less (λ n. refl) c.self.inside.nodes _ c.self.inside.next _ c.args.id c.self.view_is c.take_handle.ensures in
    c.requires.counted ∙ ap (λ (forest : Forest). length (going_up forest c.args.id)) (sym less)

pub invariant_of-self : goal.invariant_of-self
invariant_of-self c = (
  c.remove_upward.ensures.kept _ (kept-update handle_less one_less less-ties c.self.inside.nodes _ _ c.args.id c.self.invariant.0 c.take_handle.ensures),
  c.remove_upward.ensures.tied,
)

pub returns : goal.returns
returns c =
    let less = forest-update handle_less one_less (λ n. refl) c.self.inside.nodes _ c.self.inside.next _ c.args.id c.self.view_is c.take_handle.ensures in
    let all = c.requires.counted ∙ ap (λ (forest : Forest). length (going_up forest c.args.id)) (sym less) in
    let rest = closed c.args.self.now _ _ c.self.inside.next c.args.id _ less c.remove_upward.ensures.spans
    (more-none c.args.count ∙ ap (λ n. not (n == 0)) all) in
    (c.requires.held, rest.0, rest.1)
