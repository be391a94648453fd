use Rattle.std.proofs.Common.{length}
use Rattle.tracing_tree_tracer.proofs.tracer.Tracer.+close_to.Given as goal

-- A close that is accepted leaves one open span less.
abbrev pub decreases-close_to : goal.decreases-close_to
decreases-close_to g l = length l.self.now.spans
