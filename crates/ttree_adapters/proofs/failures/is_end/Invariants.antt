use Rattle.std.proofs.Common.{◌≡◌, length}
use Rattle.ttree_adapters.specs.Failures.{is_end}
use Rattle.ttree_adapters.proofs.failures.is_end.Given as goal

-- what holds of the rest holds of all
abbrev pub invariant-loop-rest : goal.invariant-loop-rest
invariant-loop-rest l = is_end l.fn.fields ≡ is_end l.rest

abbrev pub decreases-loop-rest : goal.decreases-loop-rest
decreases-loop-rest l = length l.rest
