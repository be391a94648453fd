use Rattle.std.proofs.Common.{ap, ◌∙◌, sym, subst, arith}
use Rattle.tracing_tree_spans.specs.Registry.Slots.{slot_ids, present, AreRising}
use Rattle.tracing_tree_spans.proofs.SlotLists.{vacated_end}
use Rattle.tracing_tree_spans.proofs.registry.nodes.vacate.Goals as goal

pub returns-then-at-len-clause-spans : goal.returns-then-at-len-clause-spans
returns-then-at-len-clause-spans c =
    let cut = vacated_end c.args.slots.now.items c.args.at c.args.id (omega arith) c.requires.inside c.requires.rising in
    ap present c.truncate.ensures.items ∙ cut.spans

pub returns-then-at-len-clause-rising : goal.returns-then-at-len-clause-rising
returns-then-at-len-clause-rising c =
    let cut = vacated_end c.args.slots.now.items c.args.at c.args.id (omega arith) c.requires.inside c.requires.rising in
    subst (λ slots. AreRising (slot_ids slots)) (sym c.truncate.ensures.items) cut.rising
