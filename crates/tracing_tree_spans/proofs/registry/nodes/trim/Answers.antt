use Rattle.std.proofs.Common.{◌≡◌, ◌-◌, length, take, arith, sym, ap, ◌∙◌, subst}
use Rattle.tracing_tree_spans.specs.Registry.Slots.{present, slot_ids, ends_in_gap, AreRising}
use Rattle.tracing_tree_spans.proofs.SlotLists.{trimmed_end}
use Rattle.tracing_tree_spans.proofs.registry.nodes.trim.Goals as goal

pub loop-slots-preserved : goal.loop-slots-preserved
loop-slots-preserved c =
    let ends = ap ends_in_gap (sym c.as_slice.ensures.value) ∙ sym c.ends_in_gap.ensures ∙ c.loop-slots-test.true in
    let h = trimmed_end c.loop-slots.slots.items ends c.loop-slots.invariant.rising in
    let all : c.len.result ≡ length c.loop-slots.slots.items = omega (arith, c.len.ensures, c.loop-slots.slots.ok) in
    let cut = c.truncate.ensures.items ∙ ap (λ n. take (n - 1) c.loop-slots.slots.items) all in record {
      spans = ap present cut ∙ h.spans ∙ c.loop-slots.invariant.spans;
      rising = subst (λ slots. AreRising (slot_ids slots)) (sym cut) h.rising;
    }
