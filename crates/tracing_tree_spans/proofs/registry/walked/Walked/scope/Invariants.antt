use Rattle.tracing_tree_spans.proofs.WalkedPaths.{IsWalked, left_of}
use Rattle.tracing_tree_spans.proofs.registry.walked.Walked.scope.Given as goal

-- the ids so far, and the rest of the path upward
abbrev pub invariant-loop-span : goal.invariant-loop-span
invariant-loop-span l = IsWalked l.self-inside.spans l.fn.id l.scope.items l.span

abbrev pub decreases-loop-span : goal.decreases-loop-span
decreases-loop-span l = left_of l.self-inside.spans l.span
