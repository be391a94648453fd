use Rattle.std.proofs.Common.{◌≡◌, ◌≤◌, length}
use Rattle.ttree_go_test.specs.GoTest.{owner, owner_within}
use Rattle.ttree_go_test.proofs.go_test.running.owner.Given as goal

-- no longer prefix runs
abbrev pub invariant-loop-length : goal.invariant-loop-length
invariant-loop-length l = record {
  within : l.length ≤ length l.fn.test;
  same : owner l.fn.tests l.fn.test ≡ owner_within l.fn.tests l.fn.test l.length;
}

abbrev pub decreases-loop-length : goal.decreases-loop-length
decreases-loop-length l = l.length
