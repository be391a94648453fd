use Rattle.std.proofs.Common.{◌≡◌, take}
use Rattle.tracing_tree_layer.proofs.parts.texts.to_fields.Given as goal

-- the fields so far have their own strings
abbrev pub invariant-loop-field : goal.invariant-loop-field
invariant-loop-field l = l.fields.items ≡ take l.field-index l.texts
