use Rattle.std.specs.Io.KnownBytes.{Keeps}
use Rattle.ttree_terminal.proofs.writer.write_some.Given as goal

-- an interrupted write leaves what is known
abbrev pub invariant-loop-try : goal.invariant-loop-try
invariant-loop-try g l = Keeps (g.W.Write.contents l.initial.writer) (g.W.Write.contents l.writer)
