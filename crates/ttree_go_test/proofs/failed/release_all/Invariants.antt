use Rattle.std.proofs.Common.{◌≡◌, length}
use Rattle.ttree_go_test.specs.Failed.{all_released}
use Rattle.ttree_go_test.proofs.failed.release_all.Given as goal

-- the later packages are still to be shown
abbrev pub invariant-loop-packages : goal.invariant-loop-packages
invariant-loop-packages l = all_released l.fn.packages l.fn.shown ≡ all_released l.packages l.shown

abbrev pub decreases-loop-packages : goal.decreases-loop-packages
decreases-loop-packages l = length l.packages
