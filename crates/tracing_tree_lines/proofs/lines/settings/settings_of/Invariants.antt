use Rattle.std.proofs.Common.{◌≡◌}
use Rattle.serde_json.specs.View.{view, members_view}
use Rattle.tracing_tree_lines.specs.Lines.Spelled.{object_settings, with_members}
use Rattle.tracing_tree_lines.specs.Lines.Values.{asked_of}
use Rattle.tracing_tree_lines.proofs.lines.settings.settings_of.Given as goal

-- what the rest makes of the settings so far is what the object sets
abbrev pub invariant-loop-key : goal.invariant-loop-key
invariant-loop-key l =
    object_settings (view l.value)
    ≡ with_members (members_view l.key-iterator) (asked_of l.setup)
