use Rattle.std.proofs.Common.{◌≡◌, [], length}
use Rattle.ttree_go_test.specs.GoTest.{left_over}
use Rattle.ttree_go_test.proofs.go_test.GoTest.leave_over.Given as goal

-- those of earlier names are left
abbrev pub invariant-loop-tests : goal.invariant-loop-tests
invariant-loop-tests l = left_over l.fn.ending l.fn.package_span [] l.fn.tests l.fn.self ≡ left_over l.fn.ending l.fn.package_span [] l.tests l.self

abbrev pub decreases-loop-tests : goal.decreases-loop-tests
decreases-loop-tests l = length l.tests
