use Rattle.std.proofs.Common.{sym, ◌∙◌}
use Rattle.tracing_tree_spans.proofs.SlotLists.{at-place, kept-there, kept-nowhere}
use Rattle.tracing_tree_spans.proofs.registry.nodes.Nodes.get.Goals as goal

pub returns-in_err-at : goal.returns-in_err-at
returns-in_err-at c =
    rw c.from_residual.ensures (sym (kept-nowhere _ _ _ _ _ c.self.invariant c.self.view_is c.as_slice.ensures.value c.in_err-at.ensures))

pub returns : goal.returns
returns c =
    let there = at-place _ c.self.inside.slots.items c.args.id _ _ c.as_slice.ensures.value c.in_ok-at.ensures c.index.ensures in
    c.node.ensures ∙ sym (kept-there _ _ _ _ _ _ c.self.invariant c.self.view_is there)
