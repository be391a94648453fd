use Rattle.std.proofs.Common.{◌≡◌, length}
use Rattle.tracing_tree_spans.specs.Registry.Slots.{present, slot_ids, AreRising}
use Rattle.tracing_tree_spans.proofs.registry.nodes.trim.Given as goal

-- the same spans, in the order of their ids
abbrev pub invariant-loop-slots : goal.invariant-loop-slots
invariant-loop-slots l = record {
  spans : present l.slots.items ≡ present l.initial.slots.items;
  rising : AreRising (slot_ids l.slots.items);
}

abbrev pub decreases-loop-slots : goal.decreases-loop-slots
decreases-loop-slots l = length l.slots.items
