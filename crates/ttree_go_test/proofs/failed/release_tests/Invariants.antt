use Rattle.std.proofs.Common.{◌≡◌, length}
use Rattle.ttree_go_test.specs.Failed.{tests_released}
use Rattle.ttree_go_test.proofs.failed.release_tests.Given as goal

-- the later tests are still to be shown
abbrev pub invariant-loop-tests : goal.invariant-loop-tests
invariant-loop-tests l = tests_released l.fn.path l.fn.tests l.fn.shown ≡ tests_released l.fn.path l.tests l.shown

abbrev pub decreases-loop-tests : goal.decreases-loop-tests
decreases-loop-tests l = length l.tests
