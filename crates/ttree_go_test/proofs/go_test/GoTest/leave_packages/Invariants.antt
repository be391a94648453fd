use Rattle.std.proofs.Common.{◌≡◌, length}
use Rattle.ttree_go_test.specs.GoTest.{packages_left}
use Rattle.ttree_go_test.proofs.go_test.GoTest.leave_packages.Given as goal

-- the later packages are left
abbrev pub invariant-loop-packages : goal.invariant-loop-packages
invariant-loop-packages l = packages_left l.fn.packages l.fn.self ≡ packages_left l.packages l.self

abbrev pub decreases-loop-packages : goal.decreases-loop-packages
decreases-loop-packages l = length l.packages
