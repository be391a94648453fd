use Rattle.std.proofs.Common.{sym, ap, ◌∙◌, subst}
use Rattle.tracing_tree_spans.specs.Registry.Nodes.{spans_of}
use Rattle.tracing_tree_spans.specs.Registry.Branches.{KeepsOthers}
use Rattle.tracing_tree_spans.proofs.SlotLists.{leave-none}
use Rattle.tracing_tree_spans.proofs.KeptLists.{spans-left}
use Rattle.tracing_tree_spans.proofs.Ties.{parent-read, child-counted, tied-leaf, tied-root, spans-leaf}
use Rattle.tracing_tree_spans.proofs.registry.spans.remove_leaf.Goals as goal

-- an id that isn't live
pub returns-in_err-node-clause-parent : goal.returns-in_err-node-clause-parent
returns-in_err-node-clause-parent c = c.from_residual.ensures ∙ sym (parent-read c.args.nodes.now c.args.id _ (sym c.in_err-node.ensures))

pub returns-in_err-node-clause-spans : goal.returns-in_err-node-clause-spans
returns-in_err-node-clause-spans c =
    ap spans_of (leave-none c.args.id c.args.nodes.now (sym c.in_err-node.ensures)) ∙ spans-left c.args.id c.args.nodes.now

-- a root
pub returns-in_err-parent-clause-parent : goal.returns-in_err-parent-clause-parent
returns-in_err-parent-clause-parent c =
    c.from_residual-in_err-parent.ensures ∙ sym (parent-read c.args.nodes.now c.args.id _ (sym c.in_ok-node.ensures) ∙ sym c.parent-parent.ensures ∙ c.in_err-parent.was)

pub returns-in_err-parent-clause-spans : goal.returns-in_err-parent-clause-spans
returns-in_err-parent-clause-spans c = ap spans_of c.remove-2.ensures ∙ spans-left c.args.id c.args.nodes.now

pub returns-in_err-parent-clause-tied : goal.returns-in_err-parent-clause-tied
returns-in_err-parent-clause-tied c =
    tied-root c.args.branches.now.branches.items c.remove.new.self.branches.items c.args.nodes.now c.remove-2.new.self c.args.id c.in_ok-node.node.now c.requires.kept.0.grown c.requires.kept.1 c.requires.tied
    (subst (λ path. KeepsOthers path c.args.branches.now.branches.items c.remove.new.self.branches.items) c.path.ensures c.remove.ensures) (sym c.in_ok-node.ensures)
    c.requires.childless (sym c.parent-parent.ensures ∙ c.in_err-parent.was) c.remove-2.ensures

-- a span with a parent
pub count_down_children-requires : goal.count_down_children-requires
count_down_children-requires c =
    child-counted c.args.branches.now.branches.items c.args.nodes.now c.remove-2.new.self c.args.id c.in_ok-parent.parent c.in_ok-node.node.now c.requires.kept.1 c.requires.tied
    (sym c.in_ok-node.ensures) (sym c.parent-parent.ensures ∙ c.in_ok-parent.was) c.remove-2.ensures

pub returns-clause-parent : goal.returns-clause-parent
returns-clause-parent c =
    sym c.in_ok-parent.was ∙ c.parent-parent.ensures ∙ sym (parent-read c.args.nodes.now c.args.id _ (sym c.in_ok-node.ensures))

pub returns-clause-spans : goal.returns-clause-spans
returns-clause-spans c =
    spans-leaf c.args.nodes.now c.remove-2.new.self _ c.args.id c.in_ok-parent.parent c.remove-2.ensures c.count_down_children.ensures

pub returns-clause-tied : goal.returns-clause-tied
returns-clause-tied c =
    tied-leaf c.args.branches.now.branches.items c.remove.new.self.branches.items c.args.nodes.now c.remove-2.new.self _ c.args.id c.in_ok-parent.parent c.in_ok-node.node.now c.requires.kept.0.grown c.requires.kept.1 c.requires.tied
    (subst (λ path. KeepsOthers path c.args.branches.now.branches.items c.remove.new.self.branches.items) c.path.ensures c.remove.ensures)
    (sym c.in_ok-node.ensures) c.requires.childless (sym c.parent-parent.ensures ∙ c.in_ok-parent.was) c.remove-2.ensures c.count_down_children.ensures
