use Rattle.std.proofs.Common.{◌≡◌, ◌++◌, false, drop, string_bytes}
use Rattle.tracing_tree_layer.proofs.FieldTexts.{added_fields}
use Rattle.tracing_tree_layer.proofs.parts.texts.EventTextsEventParts.push_fields.Given as goal

-- what is appended, and what the other fields add
abbrev pub invariant-loop-field : goal.invariant-loop-field
invariant-loop-field l =
    string_bytes l.out ++ added_fields l.comma (drop l.field-index l.field-items)
    ≡ string_bytes l.initial.out ++ added_fields false l.field-items
