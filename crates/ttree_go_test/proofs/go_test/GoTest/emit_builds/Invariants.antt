use Rattle.std.proofs.Common.{◌≡◌, length}
use Rattle.ttree_go_test.specs.GoTest.{builds_emitted}
use Rattle.ttree_go_test.proofs.go_test.GoTest.emit_builds.Given as goal

-- the later builds are left
abbrev pub invariant-loop-builds : goal.invariant-loop-builds
invariant-loop-builds l = builds_emitted l.fn.builds l.fn.self ≡ builds_emitted l.builds l.self

abbrev pub decreases-loop-builds : goal.decreases-loop-builds
decreases-loop-builds l = length l.builds
