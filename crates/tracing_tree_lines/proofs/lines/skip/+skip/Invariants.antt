use Rattle.std.proofs.Common.{◌+◌, ◌*◌, length}
use Rattle.tracing_tree_lines.proofs.Taken.{PassesItems, PassesMembers}
use Rattle.tracing_tree_lines.proofs.lines.skip.+skip.Given as goal

abbrev pub decreases-skip_rest : goal.decreases-skip_rest
decreases-skip_rest l = 2 * l.depth + 1

abbrev pub decreases-skip_items : goal.decreases-skip_items
decreases-skip_items l = 2 * l.depth

abbrev pub decreases-skip_members : goal.decreases-skip_members
decreases-skip_members l = 2 * l.depth

abbrev pub invariant-skip_items-loop-reader : goal.invariant-skip_items-loop-reader
invariant-skip_items-loop-reader l = PassesItems l.inner l.initial.reader l.reader l.initial.is_whole l.is_whole

abbrev pub decreases-skip_items-loop-reader : goal.decreases-skip_items-loop-reader
decreases-skip_items-loop-reader l = length l.reader

abbrev pub invariant-skip_members-loop-reader : goal.invariant-skip_members-loop-reader
invariant-skip_members-loop-reader l = PassesMembers l.inner l.initial.reader l.reader l.initial.is_whole l.is_whole

abbrev pub decreases-skip_members-loop-reader : goal.decreases-skip_members-loop-reader
decreases-skip_members-loop-reader l = length l.reader
