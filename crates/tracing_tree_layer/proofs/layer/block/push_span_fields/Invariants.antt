use Rattle.std.proofs.Common.{◌≡◌, ◌++◌, take, map, flat_map, string_bytes}
use Rattle.tracing_tree_drawing.specs.Format.Texts.{named_value}
use Rattle.tracing_tree_layer.proofs.FieldTexts.{behind_comma}
use Rattle.tracing_tree_layer.proofs.layer.block.push_span_fields.Given as goal

-- the fields so far, each after a comma
abbrev pub invariant-loop-field : goal.invariant-loop-field
invariant-loop-field l =
    string_bytes l.out ≡ string_bytes l.initial.out ++ flat_map behind_comma (map named_value (take l.field-index l.others))
