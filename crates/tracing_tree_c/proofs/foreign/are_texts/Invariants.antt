use Rattle.std.proofs.Common.{drop}
use Rattle.tracing_tree_c.specs.Foreign.{IsUtf8Fields}
use Rattle.tracing_tree_c.proofs.foreign.are_texts.Given as goal

-- all are UTF-8 exactly if the rest are
abbrev pub invariant-loop-field : goal.invariant-loop-field
invariant-loop-field l =
    let rest = drop l.field-index l.fields in
    (IsUtf8Fields rest → IsUtf8Fields l.fields) × (IsUtf8Fields l.fields → IsUtf8Fields rest)
