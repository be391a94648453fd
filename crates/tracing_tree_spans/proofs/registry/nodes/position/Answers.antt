use Rattle.std.proofs.Common.{sym, ◌∙◌}
use Rattle.tracing_tree_spans.proofs.SlotLists.{found_at}
use Rattle.tracing_tree_spans.proofs.registry.nodes.position.Goals as goal

pub returns-then-is_at : goal.returns-then-is_at
returns-then-is_at c = found_at c.args.slots.now c.args.id c.likely_place-place.result c.requires (sym c.is_at.ensures ∙ c.if-is_at.true)
