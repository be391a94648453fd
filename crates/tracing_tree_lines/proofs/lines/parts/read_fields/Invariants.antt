use Rattle.std.proofs.Common.{length}
use Rattle.tracing_tree_lines.proofs.LineTokens.{ReadsItems}
use Rattle.tracing_tree_lines.proofs.lines.parts.read_fields.Given as goal

abbrev pub invariant-loop-alloc : goal.invariant-loop-alloc
invariant-loop-alloc l = ReadsItems l.initial.reader l.reader l.initial.is_whole l.is_whole l.fields l.are_fields

abbrev pub decreases-loop-alloc : goal.decreases-loop-alloc
decreases-loop-alloc l = length l.reader
