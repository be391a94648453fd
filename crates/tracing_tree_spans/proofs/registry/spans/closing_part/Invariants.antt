use Rattle.std.proofs.Common.{length}
use Rattle.tracing_tree_spans.specs.Registry.Forest.{path_of_any}
use Rattle.tracing_tree_spans.specs.Registry.Registered.{alone}
use Rattle.tracing_tree_spans.specs.Registry.Nodes.{spans_of}
use Rattle.tracing_tree_spans.proofs.ClosingParts.{HasClosed}
use Rattle.tracing_tree_spans.proofs.registry.spans.closing_part.Given as goal

-- `count` spans close below the current one
abbrev pub invariant-loop-next : goal.invariant-loop-next
invariant-loop-next l = HasClosed (spans_of l.nodes) l.fn.node.span.id (length l.path) l.count l.next

abbrev pub decreases-loop-next : goal.decreases-loop-next
decreases-loop-next l = length (path_of_any (alone (spans_of l.nodes)) l.next)
