use Rattle.std.proofs.Common.{◌≡◌, ◌++◌, false, drop, string_bytes}
use Rattle.tracing_tree_layer.proofs.FieldTexts.{added_fields}
use Rattle.tracing_tree_c.specs.Foreign.{IsUtf8Fields, foreign_fields}
use Rattle.tracing_tree_c.proofs.foreign.EventTextsEventParts.push_fields.Given as goal

-- what is appended, and what the other fields add, which are UTF-8
abbrev pub invariant-loop-field : goal.invariant-loop-field
invariant-loop-field l =
    let rest = drop l.field-index l.field-items in
    (string_bytes l.out ++ added_fields l.comma (foreign_fields rest)
    ≡ string_bytes l.initial.out ++ added_fields false (foreign_fields l.field-items))
    × IsUtf8Fields rest
