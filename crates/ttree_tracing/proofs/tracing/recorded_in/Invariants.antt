use Rattle.std.proofs.Common.{◌≡◌, ◌++◌, length}
use Rattle.ttree_tracing.specs.Tracing.{recorded_in}
use Rattle.ttree_tracing.proofs.tracing.recorded_in.Given as goal

-- the fields of all calls are those that were found, and then those of the rest
abbrev pub invariant-loop-rest : goal.invariant-loop-rest
invariant-loop-rest l =
    recorded_in l.fn.at l.fn.calls ≡ l.fields ++ recorded_in l.fn.at l.rest

abbrev pub decreases-loop-rest : goal.decreases-loop-rest
decreases-loop-rest l = length l.rest
