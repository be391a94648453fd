use Rattle.std.proofs.Common.{false, sym, ap, ◌∙◌}
use Rattle.std.specs.Option.{option_map_or}
use Rattle.tracing_tree_spans.specs.Registry.Slots.{is_gone}
use Rattle.tracing_tree_spans.proofs.SlotLists.{ends-read}
use Rattle.tracing_tree_spans.proofs.registry.nodes.ends_in_gap.Goals as goal

pub returns-in-Some : goal.returns-in-Some
returns-in-Some c =
    c.is_gone.ensures ∙ ap (λ o. option_map_or is_gone o false) c.in-Some.ensures.value ∙ sym (ends-read c.args.slots.now)
