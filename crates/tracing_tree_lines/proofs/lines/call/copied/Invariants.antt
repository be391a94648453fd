use Rattle.std.proofs.Common.{◌≡◌, ◌++◌, drop}
use Rattle.tracing_tree_lines.proofs.lines.call.copied.Given as goal

-- what is copied, and the other fields
abbrev pub invariant-loop-field : goal.invariant-loop-field
invariant-loop-field l = l.list.items ++ drop l.field-index l.fields ≡ l.fields
