use Rattle.std.proofs.Common.{length}
use Rattle.tracing_tree_lines.proofs.PairTokens.{ReadsTexts}
use Rattle.tracing_tree_lines.proofs.lines.pair.read_texts.Given as goal

abbrev pub invariant-loop-texts : goal.invariant-loop-texts
invariant-loop-texts l = ReadsTexts l.initial.reader l.reader l.initial.is_whole l.is_whole l.texts

abbrev pub decreases-loop-texts : goal.decreases-loop-texts
decreases-loop-texts l = length l.reader
