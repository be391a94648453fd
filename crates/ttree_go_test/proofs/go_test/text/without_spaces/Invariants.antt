use Rattle.std.proofs.Common.{◌≡◌, length}
use Rattle.ttree_go_test.specs.Texts.{without_spaces}
use Rattle.ttree_go_test.proofs.go_test.text.without_spaces.Given as goal

abbrev pub invariant-loop-rest : goal.invariant-loop-rest
invariant-loop-rest l = without_spaces l.fn.line ≡ without_spaces l.rest

abbrev pub decreases-loop-rest : goal.decreases-loop-rest
decreases-loop-rest l = length l.rest
