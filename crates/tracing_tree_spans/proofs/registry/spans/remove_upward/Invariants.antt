use Rattle.std.proofs.Common.{◌-◌, Some}
use Rattle.tracing_tree_spans.specs.Registry.Nodes.{spans_of, IsTied}
use Rattle.tracing_tree_spans.proofs.ClosingParts.{HasRemoved}
use Rattle.tracing_tree_spans.proofs.registry.spans.remove_upward.Given as goal

-- what is left to remove leaves the expected rest
abbrev pub invariant-loop : goal.invariant-loop
invariant-loop l = record {
  removed : HasRemoved (spans_of l.initial.nodes) (spans_of l.nodes) (Some l.fn.id) l.next (l.count - l.counter);
  tied : IsTied l.branches.branches.items l.nodes;
}
