use Rattle.std.proofs.Common.{◌-◌, ◌≤◌, length}
use Rattle.tracing_tree_spans.proofs.SlotLists.{IsLeft}
use Rattle.tracing_tree_spans.proofs.registry.nodes.search.Given as goal

-- only what is left can hold the id
abbrev pub invariant-loop-from : goal.invariant-loop-from
invariant-loop-from l = record {
  within : l.to ≤ length l.slots;
  left : IsLeft l.slots l.id l.from l.to;
}

abbrev pub decreases-loop-from : goal.decreases-loop-from
decreases-loop-from l = l.to - l.from
