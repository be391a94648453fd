use Rattle.std.proofs.Common.{◌≡◌, ◌≤◌, length}
use Rattle.ttree_go_test.specs.GoTest.{outer_within}
use Rattle.ttree_go_test.proofs.go_test.running.outer_in.Given as goal

-- no longer prefix runs and has a span
abbrev pub invariant-loop-length : goal.invariant-loop-length
invariant-loop-length l = record {
  within : l.length ≤ length l.fn.test;
  same : outer_within l.fn.tests l.fn.test (length l.fn.test) ≡ outer_within l.fn.tests l.fn.test l.length;
}

abbrev pub decreases-loop-length : goal.decreases-loop-length
decreases-loop-length l = l.length
