use Rattle.std.proofs.Common.{List, length, not, rules, sym, ap, ◌∙◌, subst}
use Rattle.std.proofs.lemmas.Fn.{filter_same}
use Rattle.tracing_tree_spans.specs.Registry.Spans.{KeptSpan}
use Rattle.tracing_tree_spans.specs.Registry.Slots.{present, is_gone, slot_ids, ends_in_gap, AreRising}
use Rattle.tracing_tree_spans.specs.declared.registry.slot.Slot.{Slot}
use Rattle.tracing_tree_spans.proofs.SlotLists.{present-part, rising-part, ends-part}
use Rattle.tracing_tree_spans.proofs.registry.nodes.make_room.Goals as goal

pub returns-then-live-len-clause-spans : goal.returns-then-live-len-clause-spans
returns-then-live-len-clause-spans c =
    let e = filter_same _ (λ (slot : Slot). not (is_gone slot)) _ (λ x b f' k. search rules) _ _ c.retain.ensures.filtered in
    ap present e ∙ present-part c.args.slots.now.items

pub returns-then-live-len-clause-laid : goal.returns-then-live-len-clause-laid
returns-then-live-len-clause-laid c =
    let e = filter_same _ (λ (slot : Slot). not (is_gone slot)) _ (λ x b f' k. search rules) _ _ c.retain.ensures.filtered in
    let spans = ap present e ∙ present-part c.args.slots.now.items in record {
      rising = subst (λ (slots : List Slot). AreRising (slot_ids slots)) (sym e) (rising-part c.args.slots.now.items c.requires.rising);
      ends = ap ends_in_gap e ∙ ends-part c.args.slots.now.items;
      counted = c.requires.counted ∙ ap (λ (nodes : List KeptSpan). length nodes) (sym spans);
    }
