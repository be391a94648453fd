use Rattle.std.proofs.Common.{◌≡◌, length}
use Rattle.tracing_tree_c.specs.Entered.{innermost}
use Rattle.tracing_tree_c.specs.Trees.{is_live_in}
use Rattle.tracing_tree_c.proofs.drawing.Drawing.current.Given as goal

-- the rest decides
abbrev pub invariant-loop-id : goal.invariant-loop-id
invariant-loop-id l = innermost (is_live_in l.self) l.entered ≡ innermost (is_live_in l.self) l.self.entered

abbrev pub decreases-loop-id : goal.decreases-loop-id
decreases-loop-id l = length l.entered
