use Rattle.std.proofs.Common.{◌≡◌, length}
use Rattle.ttree_chrome.specs.Tree.{left_while}
use Rattle.ttree_chrome.proofs.tree.Tree.leave_while.Given as goal

-- what is left then is left on
abbrev pub invariant-loop-frame : goal.invariant-loop-frame
invariant-loop-frame l =
    left_while l.fn.until l.fn.self.frames l.fn.self
    ≡ left_while l.until l.self.frames l.self

abbrev pub decreases-loop-frame : goal.decreases-loop-frame
decreases-loop-frame l = length l.self.frames
