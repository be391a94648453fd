use Rattle.std.proofs.Common.{rules, refl}
use Rattle.std.specs.Fn.{FnOnceReturnsAtMut}
use Rattle.tracing_tree_spans.proofs.SlotLists.{at-place, kept-there, kept-nowhere, laid-write, present-write, present-gap, change-none}
use Rattle.tracing_tree_spans.proofs.registry.nodes.Nodes.update.Goals as goal

pub change-requires : goal.change-requires
change-requires g c =
    let there = at-place _ c.self.inside.slots.items c.args.id _ _ c.as_slice.ensures.value c.in-Some.ensures c.index_mut.ensures.value in
    let here = rw c.in-Live.is at there in
    let kept = kept-there _ _ _ _ _ _ c.self.invariant c.self.view_is here in
    let asks = c.requires.callable c.in-Live.node kept in
    search (rules, asks)

pub invariant_of-self : goal.invariant_of-self
invariant_of-self g c =
    let there = at-place _ c.self.inside.slots.items c.args.id _ _ c.as_slice.ensures.value c.in-Some.ensures c.index_mut.ensures.value in
    let here = rw c.in-Live.is at there in
    let gave : FnOnceReturnsAtMut g.F.FnOnce c.args.change c.in-Live.node tt c.change.new.arg2 = record { shown = _; shows = refl; left = _; met = c.change.ensures; leaves = refl } in
    laid-write _ _ _ _ c.in-Live.node _ c.self.invariant here (c.requires.same_id _ _ gave)

pub returns-in-Live : goal.returns-in-Live
returns-in-Live g c f always =
    let there = at-place _ c.self.inside.slots.items c.args.id _ _ c.as_slice.ensures.value c.in-Some.ensures c.index_mut.ensures.value in
    let here = rw c.in-Live.is at there in
    let gave : FnOnceReturnsAtMut g.F.FnOnce c.args.change c.in-Live.node tt c.change.new.arg2 = record { shown = _; shows = refl; left = _; met = c.change.ensures; leaves = refl } in
    present-write f _ _ _ _ _ c.in-Live.node _ c.self.invariant c.self.view_is here (always _ _ gave)

pub returns-in_default-index_mut : goal.returns-in_default-index_mut
returns-in_default-index_mut g c f always =
    let there = at-place _ c.self.inside.slots.items c.args.id _ _ c.as_slice.ensures.value c.in-Some.ensures c.index_mut.ensures.value in
    present-gap f _ _ _ _ _ _ _ c.self.invariant c.self.view_is there c.in_default-index_mut.is

pub returns-in_default : goal.returns-in_default
returns-in_default g c f always =
    change-none f _ _ (kept-nowhere _ _ _ _ _ c.self.invariant c.self.view_is c.as_slice.ensures.value c.in_default.ensures)
