use Rattle.std.proofs.Common.{◌≡◌, ℕ, List, ◌++◌, length}
use Rattle.std.specs.Io.KnownBytes.{Appends}
use Rattle.ttree_terminal.specs.Lines.{held_after_bytes, lines_ended}
use Rattle.ttree_terminal.proofs.writer.Shaped.take_lines.Given as goal

-- the lines before the rest were written
abbrev pub invariant-loop-length : goal.invariant-loop-length
invariant-loop-length g l =
    (done : List ℕ) × (lines_ended l.fn.self.shaping l.fn.self.held l.fn.bytes ≡ done ++ lines_ended l.self.shaping l.self.held l.rest)
    × Appends (g.W.Write.contents l.fn.self.writer) (g.W.Write.contents l.self.writer) done
    × (held_after_bytes l.fn.self.held l.fn.bytes ≡ held_after_bytes l.self.held l.rest)
    × (l.self.shaping ≡ l.fn.self.shaping)

abbrev pub decreases-loop-length : goal.decreases-loop-length
decreases-loop-length g l = length l.rest
