use Rattle.std.proofs.Common.{◌≤◌, length, arith, refl, subst, sym}
use Rattle.tracing_tree_spans.specs.Registry.Nodes.{AreBelow}
use Rattle.tracing_tree_spans.specs.Registry.Slots.{present}
use Rattle.tracing_tree_spans.proofs.SlotLists.{laid-push, present-push, present-fits}
use Rattle.tracing_tree_spans.proofs.registry.nodes.Nodes.push.Goals as goal

-- there are fewer spans than fit a number
pub overflow_add-self : goal.overflow_add-self
overflow_add-self c =
    let slots = c.self.inside.slots in
    let fits : length (present slots.items) ≤ length slots.items = present-fits slots.items in
    omega (arith, fits, c.self.invariant.counted, slots.ok, slots.small)

pub invariant_of-self-2 : goal.invariant_of-self-2
invariant_of-self-2 c =
    laid-push c.self.inside.slots.items c.push.new.self.items c.args.node c.self.inside.live _ c.self.invariant
    (subst (AreBelow c.args.node.span.id.0) (sym c.self.view_is) c.requires) c.in_ok-push.ensures.items refl

pub returns-clause-ok : goal.returns-clause-ok
returns-clause-ok c =
    present-push c.self.inside.slots.items c.push.new.self.items _ c.args.node c.self.view_is
    c.in_ok-push.ensures.items

pub returns-clause-few : goal.returns-clause-few
returns-clause-few c =
    let fits : length (present c.push.new.self.items) ≤ length c.push.new.self.items = present-fits c.push.new.self.items in
    omega (arith, fits, c.push.new.self.ok, c.push.new.self.small)
