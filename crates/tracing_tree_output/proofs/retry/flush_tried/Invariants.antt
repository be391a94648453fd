use Rattle.std.specs.Io.KnownBytes.{Keeps}
use Rattle.tracing_tree_output.proofs.retry.flush_tried.Given as goal

-- an interrupted flush leaves what is known
abbrev pub invariant-loop-try : goal.invariant-loop-try
invariant-loop-try g l = Keeps (g.W.Write.contents l.initial.writer) (g.W.Write.contents l.writer)
