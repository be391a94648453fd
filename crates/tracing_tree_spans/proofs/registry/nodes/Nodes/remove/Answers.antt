use Rattle.std.proofs.Common.{List, length, arith, ap, ◌∙◌}
use Rattle.tracing_tree_spans.specs.Registry.Spans.{KeptSpan}
use Rattle.tracing_tree_spans.specs.Registry.Slots.{slot_node}
use Rattle.tracing_tree_spans.proofs.SlotLists.{at-place, kept-there, kept-nowhere, gone-rising, gone-leaves, gone-counts, leave-none}
use Rattle.tracing_tree_spans.proofs.registry.nodes.Nodes.remove.Goals as goal

-- a live span
pub vacate-requires-clause-rising : goal.vacate-requires-clause-rising
vacate-requires-clause-rising c =
    let there = at-place _ c.self.inside.slots.items c.args.id _ _ c.as_slice.ensures.value c.in-Some.ensures c.index.ensures in
    gone-rising _ _ _ _ _ c.self.invariant there

pub overflow_sub-self : goal.overflow_sub-self
overflow_sub-self c =
    let there = at-place _ c.self.inside.slots.items c.args.id _ _ c.as_slice.ensures.value c.in-Some.ensures c.index.ensures in
    let here = rw c.in-Live.is at there in
    let fewer = gone-counts c.self.inside.slots.items c.args.id _ c.self.inside.live c.in-Live.field-0 c.self.invariant here in
    omega (arith, fewer)

pub invariant_of-self : goal.invariant_of-self
invariant_of-self c =
    let there = at-place _ c.self.inside.slots.items c.args.id _ _ c.as_slice.ensures.value c.in-Some.ensures c.index.ensures in
    let here = rw c.in-Live.is at there in
    let fewer = gone-counts c.self.inside.slots.items c.args.id _ c.self.inside.live c.in-Live.field-0 c.self.invariant here in
    let same = ap (λ (xs : List KeptSpan). length xs) (c.trim.ensures.spans ∙ c.vacate.ensures.spans) in
    record { rising = c.trim.ensures.rising; ends = c.trim.ensures.ends; counted = omega (arith, same, fewer) }

pub returns-in-Live : goal.returns-in-Live
returns-in-Live c =
    let slots = c.self.inside.slots.items in
    let there = at-place _ slots c.args.id _ _ c.as_slice.ensures.value c.in-Some.ensures c.index.ensures in
    let here = rw c.in-Live.is at there in
    c.trim.ensures.spans ∙ c.vacate.ensures.spans ∙ gone-leaves slots c.args.self.now c.args.id _ _ c.in-Live.field-0 c.self.invariant c.self.view_is here

-- a gap
pub returns-in_default-index : goal.returns-in_default-index
returns-in_default-index c =
    let slots = c.self.inside.slots.items in
    let there = at-place _ slots c.args.id _ _ c.as_slice.ensures.value c.in-Some.ensures c.index.ensures in
    let none = kept-there _ _ _ _ _ _ c.self.invariant c.self.view_is there ∙ ap slot_node c.in_default-index.is in
    leave-none c.args.id c.args.self.now none

-- an id that no place has
pub returns-in_default : goal.returns-in_default
returns-in_default c =
    leave-none c.args.id c.args.self.now (kept-nowhere _ _ _ _ _ c.self.invariant c.self.view_is c.as_slice.ensures.value c.in_default.ensures)
