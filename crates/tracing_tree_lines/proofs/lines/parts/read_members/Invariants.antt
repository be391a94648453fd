use Rattle.std.proofs.Common.{length}
use Rattle.tracing_tree_lines.proofs.LineTokens.{ReadsMembers}
use Rattle.tracing_tree_lines.proofs.lines.parts.read_members.Given as goal

abbrev pub invariant-loop-key : goal.invariant-loop-key
invariant-loop-key l = ReadsMembers l.initial.reader l.reader l.parts

abbrev pub decreases-loop-key : goal.decreases-loop-key
decreases-loop-key l = length l.reader
