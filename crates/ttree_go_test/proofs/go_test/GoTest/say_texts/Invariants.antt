use Rattle.std.proofs.Common.{◌≡◌, length}
use Rattle.ttree_go_test.specs.GoTest.{builds_said, holds}
use Rattle.ttree_go_test.proofs.go_test.GoTest.say_texts.Given as goal

-- the later strings are left
abbrev pub invariant-loop-rest : goal.invariant-loop-rest
invariant-loop-rest l = builds_said l.fn.level l.fn.texts (holds l.fn.owner l.fn.self) ≡ builds_said l.fn.level l.rest (holds l.owner l.self)

abbrev pub decreases-loop-rest : goal.decreases-loop-rest
decreases-loop-rest l = length l.rest
