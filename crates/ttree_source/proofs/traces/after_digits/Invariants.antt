use Rattle.std.proofs.Common.{◌≡◌, length}
use Rattle.ttree_source.specs.Traces.{after_digits}
use Rattle.ttree_source.proofs.traces.after_digits.Given as goal

abbrev pub invariant-loop-rest : goal.invariant-loop-rest
invariant-loop-rest l = after_digits l.fn.text ≡ after_digits l.rest

abbrev pub decreases-loop-rest : goal.decreases-loop-rest
decreases-loop-rest l = length l.rest
