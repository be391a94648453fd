use Rattle.std.proofs.Common.{◌∙◌, refl}
use Rattle.tracing_tree_spans.specs.Registry.Spans.{fields_more}
use Rattle.tracing_tree_spans.proofs.SlotLists.{at-place, kept-there, kept-nowhere, laid-write, attempt-id, present-attempt, live-attempt, present-gap, change-none}
use Rattle.tracing_tree_spans.proofs.registry.nodes.Nodes.record.Goals as goal
use Rattle.tracing_tree_spans.proofs.registry.nodes.Nodes.record.Goals.{in-Some+in_default-index_mut, in_default}

pub invariant_of-self : goal.invariant_of-self
invariant_of-self c =
    let there = at-place _ c.self.inside.slots.items c.args.id _ _ c.as_slice.ensures.value c.in-Some.ensures c.index_mut.ensures.value in
    let here = rw c.in-Live.is at there in
    laid-write _ _ _ _ c.in-Live.node _ c.self.invariant here
    (attempt-id (fields_more c.args.fields) c.record.result c.in-Live.node _ refl c.record.ensures.ok c.record.ensures.err)

pub returns-in-Live-clause-ok : goal.returns-in-Live-clause-ok
returns-in-Live-clause-ok c =
    let there = at-place _ c.self.inside.slots.items c.args.id _ _ c.as_slice.ensures.value c.in-Some.ensures c.index_mut.ensures.value in
    let here = rw c.in-Live.is at there in
    present-attempt (fields_more c.args.fields) c.record.result _ _ _ _ _ c.in-Live.node _ c.self.invariant c.self.view_is here c.record.ensures.ok

pub returns-in-Live-clause-live : goal.returns-in-Live-clause-live
returns-in-Live-clause-live c =
    let there = at-place _ c.self.inside.slots.items c.args.id _ _ c.as_slice.ensures.value c.in-Some.ensures c.index_mut.ensures.value in
    let here = rw c.in-Live.is at there in
    live-attempt c.record.result c.args.self.now c.args.id c.in-Live.node (kept-there _ _ _ _ _ _ c.self.invariant c.self.view_is here)

pub returns-clause-ok : goal.returns-clause-ok
returns-clause-ok c = elim c.match-position.branch [
  | in-Some+in_default-index_mut w ↦
      let there = at-place _ c.self.inside.slots.items c.args.id _ _ c.as_slice.ensures.value w.in-Some.ensures w.index_mut.ensures.value in
      w.self-is ∙ present-gap (fields_more c.args.fields) _ _ _ _ _ _ _ c.self.invariant c.self.view_is there w.in_default-index_mut.is
  | in_default w ↦
      w.self-is ∙ change-none (fields_more c.args.fields) _ _ (kept-nowhere _ _ _ _ _ c.self.invariant c.self.view_is c.as_slice.ensures.value w.in_default.ensures)
]
