use Rattle.std.proofs.Common.{◌≡◌, length}
use Rattle.ttree_junit.specs.Failure.{after_found}
use Rattle.ttree_junit.proofs.failure.after_found.Given as goal

-- what is found in the rest is found in all
abbrev pub invariant-loop-rest : goal.invariant-loop-rest
invariant-loop-rest l = after_found l.fn.mark l.fn.text ≡ after_found l.fn.mark l.rest

abbrev pub decreases-loop-rest : goal.decreases-loop-rest
decreases-loop-rest l = length l.rest
